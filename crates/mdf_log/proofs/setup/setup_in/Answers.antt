use Rattle.mdf_log.proofs.Texts.{busy_of, plan_of, setup_of}
use Rattle.mdf_log.proofs.setup.setup_in.Goals as goal

pub returns-clause-says : goal.returns-clause-says
returns-clause-says c =
    setup_of c.args.text _ c.in_ok-script.ensures.says c.in_ok-script.ensures.script c.idle_plan.result c.idle_plan.ensures.idle

pub returns-clause-plan : goal.returns-clause-plan
returns-clause-plan c =
    plan_of c.args.text _ c.in_ok-script.ensures.says c.in_ok-script.ensures.script c.idle_plan.result c.idle_plan.ensures.idle

pub returns-clause-fault : goal.returns-clause-fault
returns-clause-fault c =
    busy_of c.args.text _ c.in_ok-script.ensures.says c.in_ok-script.ensures.script c.idle_plan.result c.idle_plan.ensures.busy

use Rattle.std.proofs.Common.{subst, arith}
use Rattle.acq_script.specs.Plan.{TaskFits}
use Rattle.mdf_layout.proofs.Costs.{cost_small}
use Rattle.book_rotate.proofs.large.task_cost.Goals as goal

pub cost_of-requires-clause-room : goal.cost_of-requires-clause-room
cost_of-requires-clause-room c =
    let plan = c.args.plan.now in
    let fits = subst (TaskFits plan) c.in-Sample.is c.requires.fits in
    omega (arith, cost_small plan.shapes c.in-Sample.sample plan.block fits.0 c.requires.plan.fields fits.1 c.requires.plan.limits.block_high)

pub returns-in-Sample-clause-small : goal.returns-in-Sample-clause-small
returns-in-Sample-clause-small c =
    let plan = c.args.plan.now in
    let fits = subst (TaskFits plan) c.in-Sample.is c.requires.fits in
    omega (arith, c.cost_of.ensures, cost_small plan.shapes c.in-Sample.sample plan.block fits.0 c.requires.plan.fields fits.1 c.requires.plan.limits.block_high)

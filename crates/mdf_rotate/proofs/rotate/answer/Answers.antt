use Rattle.mdf_rotate.proofs.Ending.{other_runs, other_usage, rotation_usage, runs_rotation}
use Rattle.mdf_rotate.proofs.rotate.answer.Goals as goal

pub returns-in-Some-clause-runs : goal.returns-in-Some-clause-runs
returns-in-Some-clause-runs g c =
    runs_rotation c.args.words.now _ _ c.args.means.now.now_ns _ _ _ _ c.rotate.result c.in-Some.output.now c.in-Some.ensures c.rotate.ensures.ends

pub returns-in-Some-clause-usage : goal.returns-in-Some-clause-usage
returns-in-Some-clause-usage g c =
    rotation_usage c.args.words.now _ _ c.args.means.now.now_ns _ _ _ _ c.rotate.result c.in-Some.output.now c.in-Some.ensures c.rotate.ensures.ends

pub returns-in-None-clause-runs : goal.returns-in-None-clause-runs
returns-in-None-clause-runs g c =
    other_runs c.args.words.now _ c.args.means.now.now_ns _ _ _ _ c.run_usage.result c.in-None.ensures c.run_usage.ensures c.leave_all.ensures.unused

pub returns-in-None-clause-usage : goal.returns-in-None-clause-usage
returns-in-None-clause-usage g c = other_usage c.args.words.now _ _ c.run_usage.result c.in-None.ensures c.run_usage.ensures

use Rattle.std.proofs.Common.{◌∙◌, ◌++◌, ap, sym}
use Rattle.acq_script.specs.Generated.{tasks_at, tasks_of}
use Rattle.acq_script.proofs.Fits.{tasks_more}
use Rattle.acq_script.proofs.generate.tasks_of.Goals as goal

pub loop-number-init : goal.loop-number-init
unfolding tasks_of
loop-number-init c = c.empty-tasks.ensures

pub loop-number-preserved : goal.loop-number-preserved
loop-number-preserved c =
    c.in_ok-add_tasks.ensures
    ∙ ap (λ tasks. tasks ++ tasks_at c.args.source c.loop-number.number) c.loop-number.invariant
    ∙ sym (tasks_more c.args.source c.loop-number.number)

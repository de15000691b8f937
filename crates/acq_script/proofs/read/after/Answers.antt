use Rattle.std.proofs.Common.{◌∙◌, ap}
use Rattle.script_line.specs.View.{seen}
use Rattle.acq_script.specs.Done.{done_as}
use Rattle.acq_script.proofs.Sounds.{step_sound}
use Rattle.acq_script.proofs.read.after.Goals as goal

pub returns-then-branch-clause-sound : goal.returns-then-branch-clause-sound
returns-then-branch-clause-sound c =
    step_sound c.args.stage.now c.step.new.stage (seen c.in-Some.said) c.requires c.in-Some.ensures.said
    (c.in_ok-step.ensures.found ∙ ap (λ done. done_as done c.step.new.stage) c.if-branch.true)

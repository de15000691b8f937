use Rattle.acq_script.proofs.Fits.{is_script}
use Rattle.acq_script.proofs.generate.generated.Goals as goal

pub returns-clause-sound : goal.returns-clause-sound
returns-clause-sound c = rw (c.in_ok-plan.ensures.plan, c.in_ok-lists.ensures) (is_script c.args.samples c.requires (rw c.in_ok-plan.ensures.plan at c.in_ok-plan.ensures.sound))

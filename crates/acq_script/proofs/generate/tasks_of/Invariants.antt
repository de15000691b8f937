use Rattle.std.proofs.Common.{◌≡◌}
use Rattle.acq_script.specs.Generated.{tasks_of}
use Rattle.acq_script.proofs.generate.tasks_of.Given as goal

abbrev pub invariant-loop-number : goal.invariant-loop-number
invariant-loop-number l = l.tasks ≡ tasks_of l.source l.number

use Rattle.std.proofs.Common.{◌≡◌, take}
use Rattle.acq_script.specs.Generated.{generated_lists}
use Rattle.acq_script.proofs.generate.lists.Given as goal

abbrev pub invariant-loop-source : goal.invariant-loop-source
invariant-loop-source l = l.lists ≡ take l.source (generated_lists l.samples)

use Rattle.std.proofs.Common.{◌≡◌, ◌+◌, take, length, filter}
use Rattle.mdf_model.specs.Measurement.{holds_samples}
use Rattle.mdf_model.proofs.wanted.address_in.Given as goal

abbrev pub invariant-loop-group : goal.invariant-loop-group
invariant-loop-group l = l.number ≡ length (filter holds_samples (take l.group-index l.groups)) + l.left

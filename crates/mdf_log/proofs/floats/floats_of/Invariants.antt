use Rattle.std.proofs.Common.{◌≡◌, take, map}
use Rattle.mdf_log.specs.Setup.{widths_of}
use Rattle.mdf_log.proofs.floats.floats_of.Given as goal

abbrev pub invariant-loop-row : goal.invariant-loop-row
invariant-loop-row l = l.floats ≡ map widths_of (take l.row-index l.plan.rows)

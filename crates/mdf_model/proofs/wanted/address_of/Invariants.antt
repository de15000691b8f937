use Rattle.std.proofs.Common.{◌≡◌, ◌+◌, take, length}
use Rattle.mdf_model.specs.Kept.{sample_rows}
use Rattle.mdf_model.proofs.wanted.address_of.Given as goal

abbrev pub invariant-loop-row : goal.invariant-loop-row
invariant-loop-row l = l.number ≡ length (sample_rows (take l.row-index l.rows)) + l.left

use Rattle.std.proofs.Common.{◌≡◌, drop}
use Rattle.mdf_tree.specs.Group.{values_past}
use Rattle.mdf_tree.proofs.value.values_past.Given as goal

abbrev pub invariant-loop-row : goal.invariant-loop-row
invariant-loop-row l = values_past l.rest (drop l.row-index l.rows) ≡ values_past l.values l.rows

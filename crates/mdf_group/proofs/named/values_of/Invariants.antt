use Rattle.std.proofs.Common.{◌≡◌, ℕ, take}
use Rattle.std.specs.List.{list_any}
use Rattle.std.specs.Ordering.{nat_cmp}
use Rattle.std.specs.BTreeSet.{contains}
use Rattle.mdf_group.specs.Group.{names_values}
use Rattle.mdf_group.proofs.named.values_of.Given as goal

abbrev pub invariant-loop-row : goal.invariant-loop-row
invariant-loop-row l = (at : ℕ) → contains nat_cmp l.values at ≡ list_any (names_values at) (take l.row-index l.rows)

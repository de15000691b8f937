use Rattle.std.proofs.Common.{◌≡◌, map, take, Some}
use Rattle.std.specs.List.{flat_map, zip}
use Rattle.mdf_paged.specs.Groups.{group_at, groups_in, row_at, rows_in}
use Rattle.mdf_paged.proofs.index.numbers_of.Given as goal

abbrev pub invariant-loop-parent : goal.invariant-loop-parent
invariant-loop-parent l = record {
  groups : map (group_at l.found) l.index.items ≡ map Some (flat_map groups_in (take l.parent l.found));
  rows : map (row_at l.rows l.found) l.index.items ≡ map Some (flat_map rows_in (take l.parent (zip l.rows l.found)));
}

use Rattle.std.proofs.Common.{◌≡◌, List, ◌++◌, map, take, Some}
use Rattle.std.specs.Prelude.{slice_get}
use Rattle.mdf_group.specs.declared.row.DataRow.{DataRow}
use Rattle.mdf_group.specs.declared.row.GroupRow.{GroupRow}
use Rattle.mdf_content.specs.declared.found.DataFound.{DataFound}
use Rattle.mdf_paged.specs.Groups.{Located, group_at, located, row_at, rows_in}
use Rattle.mdf_paged.proofs.index.add_numbers.Given as goal

-- the numbers so far lead to the groups so far
abbrev pub invariant-loop-group : goal.invariant-loop-group
invariant-loop-group l = record {
  groups : (found : List DataFound) (before : List Located) → slice_get found l.parent ≡ Some l.one
      → map (group_at found) l.initial.index.items ≡ map Some before
      → map (group_at found) l.index.items ≡ map Some (before ++ map (located l.one) (take l.group l.one.groups));
  rows : (rows : List DataRow) (found : List DataFound) (before : List GroupRow) → slice_get rows l.parent ≡ Some l.data_row
      → slice_get found l.parent ≡ Some l.one → map (row_at rows found) l.initial.index.items ≡ map Some before
      → map (row_at rows found) l.index.items ≡ map Some (before ++ rows_in (l.data_row, record l.one { groups = take l.group l.one.groups }));
}

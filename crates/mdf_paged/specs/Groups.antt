-- The groups of a file whose records are found, and their samples.
use Rattle.std.specs.Prelude.{ℕ, Bool, List, map, slice_get, Option}
use Rattle.std.specs.List.{flat_map, zip}
use Rattle.std.specs.Option.{option_and_then, option_map, option_to_list}
use Rattle.mdf_group.specs.declared.row.DataRow.{DataRow}
use Rattle.mdf_group.specs.declared.row.GroupRow.{GroupRow}
use Rattle.mdf_layout.specs.declared.sample.Entry.{Entry}
use Rattle.mdf_content.specs.declared.contents.Contents.{Contents}
use Rattle.mdf_content.specs.declared.found.DataFound.{DataFound}
use Rattle.mdf_content.specs.declared.found.Found.{Found}
use Rattle.mdf_content.specs.Found.{fetched}
use Rattle.mdf_content.specs.Samples.{sample_at}
use Rattle.mdf_model.specs.declared.whole.WholeFound.{WholeFound}
use Rattle.mdf_model.specs.Measurement.{are_strict}
use Rattle.mdf_paged.specs.declared.index.GroupNumber.{GroupNumber}

-- a group with the data group that it is one of
pub record Located : Type 0 where
  pub parent : DataFound
  pub group : Found

abbrev pub located : DataFound → Found → Located
located parent group = record { parent = parent; group = group }

-- the groups of a data group, and those of all data groups, in order
abbrev pub groups_in : DataFound → List Located
groups_in parent = map (located parent) parent.groups

abbrev pub groups_of : WholeFound → List Located
groups_of all = flat_map groups_in all.found

-- a group of a data group as it was read; those of a data group, and of all data groups, in order
abbrev pub row_of : DataRow → Found → Option GroupRow
row_of data_row group = slice_get data_row.groups group.which

abbrev pub rows_in : DataRow × DataFound → List GroupRow
rows_in pair = flat_map (λ (group : Found). option_to_list (row_of pair.0 group)) pair.1.groups

abbrev pub group_rows : WholeFound → List GroupRow
group_rows all = flat_map rows_in (zip all.tree.rows all.found)

-- each group as it was read, with how many samples it has
abbrev pub shown_groups : WholeFound → List (GroupRow × ℕ)
shown_groups all = zip (group_rows all) (map (λ (place : Located). place.group.count) (groups_of all))

-- the file is as the standard has it, as `is_strict` of mdf_model says of it with its bytes
abbrev pub is_strict : WholeFound → Bool
is_strict all = are_strict (λ (one : DataFound). one.strict) all.ident all.found

-- the group with these numbers
abbrev pub group_at : List DataFound → GroupNumber → Option Located
group_at found number = option_and_then (λ parent. option_map (located parent) (slice_get parent.groups number.group)) (slice_get found number.parent)

-- and as it was read
abbrev pub row_at : List DataRow → List DataFound → GroupNumber → Option GroupRow
row_at rows found number =
    option_and_then (λ (data_row : DataRow). option_and_then (λ (place : Located). row_of data_row place.group) (group_at found number)) (slice_get rows number.parent)

-- what a group holds, with the bytes of the file there, and the sample of record i of it
abbrev pub held_at : List ℕ → Located → Contents
held_at file place = fetched file place.parent.view place.parent.lists place.group

abbrev pub sample_in : List ℕ → Located → ℕ → Option (List Entry)
sample_in file place i = sample_at (held_at file place).shape (held_at file place).content (held_at file place).streams i

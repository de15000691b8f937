-- What is found of a data group where the places of all its records are not wanted.
use Rattle.std.specs.Prelude.{ℕ, Bool, true, false, ◌&&◌, not, nat_eq, if◌then◌else◌, List, map, Ok}
use Rattle.std.specs.List.{list_any}
use Rattle.mdf_format.specs.declared.kind.Kind.TheVariants.{Dt}
use Rattle.mdf_block.specs.Refusal.{Read, ◌>>=◌}
use Rattle.mdf_stream.specs.Link.{data_parts}
use Rattle.mdf_stream.specs.Parts.{stream_of, stream_size}
use Rattle.mdf_data.specs.Kept.{kept, kept_places}
use Rattle.mdf_group.specs.declared.row.DataRow.{DataRow}
use Rattle.mdf_group.specs.declared.row.GroupRow.{GroupRow}
use Rattle.mdf_group.specs.Group.{is_variable}
use Rattle.mdf_group.specs.Recordable.{is_of_values}
use Rattle.mdf_content.specs.declared.found.DataFound.{DataFound}
use Rattle.mdf_content.specs.declared.wanted.Wanted.{Wanted}
use Rattle.mdf_content.specs.declared.wanted.Wanted.TheVariants as wants
use Rattle.mdf_content.specs.Found.{data_at}
use Rattle.mdf_content.specs.Layouts.{layouts}
use Rattle.mdf_content.specs.Records.{counted, known_of, places_without_ids}

-- the records of a group hold no values of variable length, and have no offset of one
abbrev pub is_without_values : GroupRow → Bool
is_without_values group = not (is_variable group) && not (list_any is_of_values group.channels)

-- they are counted alone: where values are wanted, those without them; and where a group is wanted too, those that are not its own
abbrev pub is_counted : Wanted → GroupRow → Bool
is_counted wants.Every group = false
is_counted wants.Values group = is_without_values group
is_counted (wants.Group at) group = is_without_values group && not (nat_eq group.at at)

-- the places of the records of a data group so; those of records without ids take no memory, and all are kept
abbrev pub kept_lists : Wanted → DataRow → List (List ℕ) → List (List ℕ)
kept_lists wanted row lists = if nat_eq row.id_size 0 then lists else kept lists (map (is_counted wanted) row.groups)

-- and as they are found in its stream
unfoldable pub kept_of : Wanted → List ℕ → ℕ → Bool → DataRow → Read (List (List ℕ))
kept_of wanted stream total believed row =
    if nat_eq row.id_size 0 then places_without_ids total believed row.groups
    else kept_places stream total row.id_size (map known_of row.groups) (map (is_counted wanted) row.groups)

-- a data group so, where so many groups of the file were counted before, and how many then
unfoldable pub data_kept : Wanted → List ℕ → DataRow → ℕ → Read (DataFound × ℕ)
data_kept wanted file row number = do
  _ ← layouts row
  parts ← data_parts file Dt row.content
  lists ← kept_of wanted (stream_of file parts) (stream_size parts) true row
  next ← counted lists row.groups number
  found ← data_at file parts row lists
  Ok (found, next)

-- what is found of a data group, with the places that are wanted in place of all
abbrev pub kept_found : Wanted → DataRow → DataFound → DataFound
kept_found wanted row found = record found { lists = kept_lists wanted row found.lists }

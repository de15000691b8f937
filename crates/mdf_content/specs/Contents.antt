-- What is read of a channel group and of a data group.
use Rattle.std.specs.Prelude.{ℕ, ◌+◌, ◌*◌, Bool, true, ◌&&◌, ◌||◌, not, nat_eq, if◌then◌else◌, List, [], ◌∷◌, length, min, slice_index_or}
use Rattle.std.specs.List.{flat_map, list_any, AllByRecursion}
use Rattle.mdf_format.specs.Number.{bytes_at}
use Rattle.mdf_group.specs.declared.row.GroupRow.{GroupRow}
use Rattle.mdf_group.specs.declared.row.DataRow.{DataRow}
use Rattle.mdf_content.specs.declared.contents.Contents.{Contents}
use Rattle.mdf_content.specs.declared.contents.DataContents.{DataContents}
use Rattle.mdf_content.specs.Records.{record_size}
use Rattle.mdf_content.specs.Samples.{AreSamples}
use Rattle.mdf_content.specs.Values.{GroupRecords}

-- how many records of a group are looked at: as many as it says, where that is believed
abbrev pub count_of : Bool → GroupRow → List ℕ → ℕ
count_of believed group places = if believed then min group.cycles (length places) else length places

-- the data bytes and the invalidation bytes of the records at these places, one record behind the other
abbrev pub content_of : List ℕ → ℕ → List ℕ → List ℕ
content_of stream size places = flat_map (bytes_at size stream) places

abbrev pub records_at : Bool → GroupRow → List ℕ → GroupRecords
records_at believed group places =
    record { data_bytes = group.data_bytes; places = places; count = count_of believed group places }

-- how many bytes of a stream without ids are records of its one group
abbrev pub taken : List GroupRow → List (List ℕ) → ℕ
taken [] lists = 0
taken (group ∷ groups) lists = record_size group * length (slice_index_or lists 0 [])

-- nothing of a stream of so many bytes is left behind its records; with ids nothing ever is
abbrev pub leaves_nothing : DataRow → ℕ → List (List ℕ) → Bool
leaves_nothing row total lists = not (nat_eq row.id_size 0) || nat_eq total (taken row.groups lists)

-- each group says as many records as it has; the groups are counted from a number on
unfoldable pub are_said : List (List ℕ) → ℕ → List GroupRow → Bool
are_said lists k [] = true
are_said lists k (group ∷ groups) = nat_eq group.cycles (length (slice_index_or lists k [])) && are_said lists (k + 1) groups

-- no two groups have one id
abbrev pub has_id : ℕ → GroupRow → Bool
has_id id group = nat_eq group.id id

unfoldable pub are_ids_apart : List GroupRow → Bool
are_ids_apart [] = true
are_ids_apart (group ∷ groups) = not (list_any (has_id group.id) groups) && are_ids_apart groups

-- a data group as the standard has it: nothing is left of its stream, and its groups say what they have, each with its id
abbrev pub is_strict : DataRow → ℕ → List (List ℕ) → Bool
is_strict row total lists = leaves_nothing row total lists && (are_said lists 0 row.groups && are_ids_apart row.groups)

-- what is read of a group has a sample for each record
abbrev pub HaveSamples : Contents → Type 0
HaveSamples found = AreSamples found.shape found.count found.content found.streams

-- and so of each group of a data group
abbrev pub AllHaveSamples : DataContents → Type 0
AllHaveSamples found = AllByRecursion HaveSamples found.groups

-- The places of the records of a data group in its stream, and whether there are as many as its groups say.
use Rattle.std.specs.Prelude.{ℕ, ◌+◌, ◌≤◌, Bool, ◌&&◌, not, nat_eq, nat_lt, if◌then◌else◌, List, [], ◌∷◌, length, map, slice_index_or, Option, None, Ok, Err}
use Rattle.mdf_block.specs.declared.what.What.TheVariants as whats
use Rattle.mdf_block.specs.Refusal.{TooMany, Cycles, Read, ◌>>=◌}
use Rattle.mdf_data.specs.declared.known.Size.{Size}
use Rattle.mdf_data.specs.declared.known.Size.TheVariants as sizes
use Rattle.mdf_data.specs.declared.known.Known.{Known}
use Rattle.std.specs.List.{AllByRecursion}
use Rattle.mdf_data.specs.Record.{least_size}
use Rattle.mdf_data.specs.Places.{places, places_alone}
use Rattle.mdf_group.specs.declared.row.GroupRow.{GroupRow}
use Rattle.mdf_group.specs.declared.row.DataRow.{DataRow}
use Rattle.mdf_group.specs.Group.{is_variable}
use Rattle.mdf_block.specs.Every.{every}

-- how long the records of a group are, without their ids
abbrev pub record_size : GroupRow → ℕ
record_size group = group.data_bytes + group.inval_bytes

abbrev pub size_of : GroupRow → Size
size_of group = if is_variable group then sizes.Variable else sizes.Fixed (record_size group)

abbrev pub known_of : GroupRow → Known
known_of group = record { id = group.id; size = size_of group }

-- how many records a group says to have, where that is believed
abbrev pub said_by : Bool → GroupRow → ℕ
said_by believed group = if believed then group.cycles else 0

-- the records of the group have no bytes in a stream without ids, so that they are as many as is said
abbrev pub has_empty_records : GroupRow → Bool
has_empty_records group = not (is_variable group) && nat_eq (record_size group) 0

abbrev pub empties_of : ℕ → GroupRow → ℕ
empties_of said group = if has_empty_records group then said else 0

-- the records of the one group of a stream of so many bytes without ids; of empty ones no more than 268,435,456 are read
abbrev pub places_of_one : ℕ → ℕ → GroupRow → Read (List ℕ)
places_of_one total said group =
    if nat_lt 268435456 (empties_of said group) then Err (TooMany whats.Sample group.at)
    else Ok (places_alone total (empties_of said group) (size_of group))

-- there may be no group
abbrev pub places_without_ids : ℕ → Bool → List GroupRow → Read (List (List ℕ))
places_without_ids total believed [] = Ok []
places_without_ids total believed (group ∷ groups) =
    places_of_one total (said_by believed group) group >>= λ found. Ok (found ∷ [])

-- the places of the bodies of all records of a data group, group by group
unfoldable pub places_of : List ℕ → ℕ → Bool → DataRow → Read (List (List ℕ))
places_of stream total believed row =
    if nat_eq row.id_size 0 then places_without_ids total believed row.groups
    else places stream total row.id_size (map known_of row.groups)

-- a group has no fewer records than it says; groups of values are passed over, and the others are counted over the file
abbrev pub counted_group : List (List ℕ) → ℕ → GroupRow → ℕ → Read (Option (Unit {0}) × ℕ)
counted_group lists k group number =
    if is_variable group then Ok (None, number)
    else (if nat_lt (length (slice_index_or lists k [])) group.cycles
    then Err (Cycles number group.cycles (length (slice_index_or lists k []))) else Ok (None, number + 1))

-- the groups of a data group one after another, where so many groups of the file were counted before, and how many then
unfoldable pub counted : List (List ℕ) → List GroupRow → ℕ → Read ℕ
counted lists groups number = every (counted_group lists) 0 groups number >>= λ found. Ok found.1

-- the places of group k leave room for the least bodies of its records in a stream of so many bytes
abbrev pub HasRoom : ℕ → List (List ℕ) → ℕ → GroupRow → Type 0
HasRoom total lists k group = AllByRecursion (λ place. place + least_size (size_of group) ≤ total) (slice_index_or lists k [])

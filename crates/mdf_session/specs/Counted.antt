-- What is counted of the channel groups of a recording, and the streams of their channels of variable length.
use Rattle.std.specs.Prelude.{ℕ, ◌+◌, false, nat_eq, if◌then◌else◌, List, [], ◌∷◌, length, sum_by, slice_index_or, Option, Some, None, Ok}
use Rattle.std.specs.List.{flat_map}
use Rattle.mdf_format.specs.Number.{le_number, bytes_at}
use Rattle.mdf_block.specs.Refusal.{Read, ◌>>=◌}
use Rattle.mdf_group.specs.declared.row.GroupRow.{GroupRow}
use Rattle.mdf_group.specs.declared.row.DataRow.{DataRow}
use Rattle.mdf_group.specs.Group.{is_variable}
use Rattle.mdf_content.specs.Contents.{records_at, taken}
use Rattle.mdf_content.specs.Layouts.{layout}
use Rattle.mdf_content.specs.Values.{DataStream, streams}
use Rattle.mdf_block.specs.Every.{every}

-- the list of places of a group, by its number
abbrev pub places_by : List (List ℕ) → ℕ → List ℕ
places_by lists k = slice_index_or lists k []

-- the streams of the channels of variable length of a group, over all of its records, which have these places
abbrev pub streams_at : List ℕ → DataStream → GroupRow → List ℕ → Read (List (List ℕ))
streams_at file held group places = layout group >>= λ _. streams file held (records_at false group places) group.channels

-- the same group by group; groups of values are passed over
unfoldable pub group_streams : List ℕ → DataStream → ℕ → GroupRow → Unit {0} → Read (Option (List (List ℕ)) × Unit {0})
group_streams file held k group left =
    if is_variable group then Ok (None, left)
    else (layout group >>= λ _. streams file held (records_at false group (places_by held.lists k)) group.channels >>= λ found. Ok (Some found, left))

abbrev pub joined : {A : Type 0} → List (List A) → List A
joined {A} lists = flat_map (λ (list : List A). list) lists

-- those of all groups, one for each channel of variable length, in order
unfoldable pub all_streams : List ℕ → DataStream → Read (List (List ℕ))
all_streams file held = every (group_streams file held) 0 held.groups tt >>= λ found. Ok (joined found.0)

-- how many records each group has; the groups are counted from a number on
unfoldable pub counts_from : List (List ℕ) → ℕ → List GroupRow → List ℕ
counts_from lists k [] = []
counts_from lists k (group ∷ groups) = length (places_by lists k) ∷ counts_from lists (k + 1) groups

-- how many bytes the values in the records at these places have, without their lengths
abbrev pub values_total : List ℕ → List ℕ → ℕ
values_total stream places = sum_by (λ (place : ℕ). le_number (bytes_at 4 stream place)) places

-- those of a group of values; a group that holds no values has none
abbrev pub total_of : List ℕ → GroupRow → List ℕ → ℕ
total_of stream group places = if is_variable group then values_total stream places else 0

unfoldable pub totals_from : List ℕ → List (List ℕ) → ℕ → List GroupRow → List ℕ
totals_from stream lists k [] = []
totals_from stream lists k (group ∷ groups) = total_of stream group (places_by lists k) ∷ totals_from stream lists (k + 1) groups

-- the bytes of the records one behind the other: the whole stream where records have ids, and else what belongs to the
-- records of the one group
abbrev pub records_content : List ℕ → DataRow → List (List ℕ) → List ℕ
records_content stream row lists = if nat_eq row.id_size 0 then bytes_at (taken row.groups lists) stream 0 else stream

-- The whole records of a stream, up to the first place where none begins.
use Rattle.std.specs.Prelude.{ℕ, zero, suc, ◌≡◌, ◌+◌, ◌-◌, ◌/◌, ◌<◌, Bool, nat_eq, if◌then◌else◌, List, [], ◌∷◌, length, map, sum_by, count_by, slice_index_or, Option, Some, None, Ok, Err}
use Rattle.mdf_block.specs.Refusal.{Read}
use Rattle.mdf_data.specs.declared.known.Known.{Known}
use Rattle.mdf_data.specs.declared.known.Piece.{Piece}
use Rattle.mdf_data.specs.Places.{places_alone}
use Rattle.mdf_data.specs.Record.{piece_at}
use Rattle.mdf_group.specs.Group.{is_variable}
use Rattle.mdf_group.specs.declared.row.GroupRow.{GroupRow}
use Rattle.mdf_group.specs.declared.row.DataRow.{DataRow}
use Rattle.mdf_content.specs.Records.{record_size, size_of, known_of, empties_of}
use Rattle.tool_complete.specs.declared.tally.Tally.{Tally}

-- a record; none where the stream ends or no whole record begins
abbrev pub if_whole : Read (Option Piece) → Option Piece
if_whole (Ok found) = found
if_whole (Err refusal) = None

-- a record that is found, and those behind it
abbrev pub found_before : (ℕ → List Piece) → Option Piece → List Piece
found_before behind (Some piece) = piece ∷ behind (piece.at + piece.len)
found_before behind None = []

-- the whole records with ids from a place of a stream of so many bytes on, at most so many
unfoldable pub whole_from : List ℕ → ℕ → ℕ → List Known → ℕ → ℕ → List Piece
whole_from stream total id_size known zero at = []
whole_from stream total id_size known (suc most) at =
    found_before (whole_from stream total id_size known most) (if_whole (piece_at stream id_size known at (total - at)))

-- all of them; there are no more than the stream has bytes
abbrev pub whole_with_ids : List ℕ → ℕ → DataRow → List Piece
whole_with_ids stream total row = whole_from stream total row.id_size (map known_of row.groups) (total + 1) 0

-- a record without an id
abbrev pub piece_alone : GroupRow → ℕ → Piece
piece_alone group place = record { which = 0; at = place; len = record_size group }

-- those of the one group; where they have no bytes, they are as many as it says
abbrev pub whole_alone : ℕ → List GroupRow → List Piece
whole_alone total [] = []
whole_alone total (group ∷ groups) = map (piece_alone group) (places_alone total (empties_of group.cycles group) (size_of group))

-- how many they are
abbrev pub count_alone : ℕ → GroupRow → ℕ
count_alone total group = if is_variable group then 0 else (if nat_eq (record_size group) 0 then group.cycles else total / record_size group)

-- the whole records of the stream of a data group
unfoldable pub whole_records : List ℕ → ℕ → DataRow → List Piece
whole_records stream total row = if nat_eq row.id_size 0 then whole_alone total row.groups else whole_with_ids stream total row

-- the record is one of group k
abbrev pub is_of : ℕ → Piece → Bool
is_of k piece = nat_eq piece.which k

-- how many records group k has
abbrev pub count_of : ℕ → List Piece → ℕ
count_of k pieces = count_by (is_of k) pieces

-- how many bytes the records have in all
abbrev pub size_of_all : List Piece → ℕ
size_of_all pieces = sum_by (λ (piece : Piece). piece.len) pieces

-- of so many groups it is told how many of the records each has, and how many bytes the records have in all
pub record IsTally (groups : ℕ) (pieces : List Piece) (tally : Tally) : Type 0 where
  pub each : (k : ℕ) → k < groups → slice_index_or tally.counts k 0 ≡ count_of k pieces
  pub all : length tally.counts ≡ groups
  pub whole : tally.whole ≡ size_of_all pieces

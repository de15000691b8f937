-- The records of a group, moved behind those of another: the offset of each channel of variable length rises by the length of
-- the stream that comes before its own.
use Rattle.std.specs.Prelude.{ℕ, zero, suc, ◌≡◌, ◌+◌, ◌<◌, List, [], ◌++◌, length, take, drop, slice_get, slice_index_or, Some}
use Rattle.mdf_format.specs.Field.{HasBit, bit_of, field_number}
use Rattle.mdf_content.specs.Samples.{record_at}
use Rattle.mdf_layout.specs.Layout.{Layout}
use Rattle.mdf_layout.specs.Rule.{spot_in}
use Rattle.mdf_layout.specs.Values.{streams_before}
use Rattle.mdf_layout.specs.declared.field.FieldKind.TheVariants.{Variable}
use Rattle.mdf_layout.specs.declared.field.FieldRow.{FieldRow}

-- channel k is this one, and its values are of variable length
pub record IsVariableAt (rows : List FieldRow) (k : ℕ) (row : FieldRow) : Type 0 where
  pub there : slice_get rows k ≡ Some row
  pub kind : row.kind ≡ Variable

-- no channel is
abbrev pub HasNoOffsets : List FieldRow → Type 0
HasNoOffsets rows = (k : ℕ) (row : FieldRow) → ¬ IsVariableAt rows k row

-- how long the stream of channel k is, of those of the channels of variable length in order
abbrev pub shift_of : List FieldRow → List (List ℕ) → ℕ → ℕ
shift_of rows streams k = length (slice_index_or streams (streams_before rows k) [])

-- the offset of a channel in the data bytes of a record
abbrev pub offset_in : FieldRow → List ℕ → ℕ
offset_in row bytes = field_number (spot_in row) bytes

-- the bit belongs to none of the first n channels that are of variable length
abbrev pub IsOfNone : List FieldRow → ℕ → ℕ → Type 0
IsOfNone rows n p = (k : ℕ) (row : FieldRow) → k < n → IsVariableAt rows k row → ¬ HasBit (spot_in row) p

-- data bytes with the offsets of the first n channels moved, and every other bit as it was
pub record AreOffsetsMoved (rows : List FieldRow) (streams : List (List ℕ)) (n : ℕ) (old new : List ℕ) : Type 0 where
  pub long : length new ≡ length old
  pub offsets : (k : ℕ) (row : FieldRow) → k < n → IsVariableAt rows k row → offset_in row new ≡ offset_in row old + shift_of rows streams k
  pub others : (p : ℕ) → IsOfNone rows n p → bit_of new p ≡ bit_of old p

-- a record with the offsets of all its channels moved, and its invalidation bytes as they were
pub record IsMoved (layout : Layout) (streams : List (List ℕ)) (old new : List ℕ) : Type 0 where
  pub front : List ℕ
  pub is : new ≡ front ++ drop layout.data_bytes old
  pub moved : AreOffsetsMoved layout.rows streams (length layout.rows) (take layout.data_bytes old) front

-- so the first so many records, one behind the other
unfoldable pub AreMoved : Layout → List (List ℕ) → List ℕ → ℕ → List ℕ → Type 0
AreMoved layout streams content zero moved = moved ≡ []
AreMoved layout streams content (suc n) moved = (front last : List ℕ) × (moved ≡ front ++ last)
    × AreMoved layout streams content n front × IsMoved layout streams (record_at layout content n) last

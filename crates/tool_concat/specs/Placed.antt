-- Offsets that can be moved one after another, as the code does it.
use Rattle.std.specs.Prelude.{ℕ, ◌≢◌, ◌+◌, ◌<◌, ◌^◌, List, length}
use Rattle.mdf_format.specs.Field.{HasBit}
use Rattle.mdf_format.specs.Row.{IsNumberPlaced}
use Rattle.mdf_layout.specs.Layout.{Layout}
use Rattle.mdf_layout.specs.Rule.{spot_in}
use Rattle.mdf_layout.specs.declared.field.FieldRow.{FieldRow}
use Rattle.tool_concat.specs.Moved.{IsVariableAt, offset_in, shift_of}
use Rattle.tool_concat.specs.Wide.{data_at}

-- each offset has its place in so many data bytes, and no two of them share a bit; there are fewer than 2^31
pub record AreOffsetsPlaced (rows : List FieldRow) (data_bytes : ℕ) : Type 0 where
  pub few : length rows < 2 ^ 31
  pub placed : (k : ℕ) (row : FieldRow) → IsVariableAt rows k row → IsNumberPlaced data_bytes (spot_in row)
  pub apart : (k j : ℕ) (row other : FieldRow) (p : ℕ) → IsVariableAt rows k row → IsVariableAt rows j other → j ≢ k
      → HasBit (spot_in row) p → ¬ HasBit (spot_in other) p

-- the fields of a record hold the moved offsets
abbrev pub AreHeld : List FieldRow → List (List ℕ) → List ℕ → Type 0
AreHeld rows streams bytes = (k : ℕ) (row : FieldRow) → IsVariableAt rows k row → offset_in row bytes + shift_of rows streams k < 2 ^ row.bits

-- those of so many records do
abbrev pub AreAllHeld : Layout → List (List ℕ) → List ℕ → ℕ → Type 0
AreAllHeld layout streams content count = (i : ℕ) → i < count → AreHeld layout.rows streams (data_at layout content i)

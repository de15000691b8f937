-- The layout of the records of a channel group.
use Rattle.std.specs.Prelude.{ℕ, ◌+◌, ◌^◌, ◌<◌, List, length, All}
use Rattle.mdf_layout.specs.Rule.{AreRuled}
use Rattle.mdf_layout.specs.Values.{IsRowPlaced}
use Rattle.mdf_layout.specs.declared.field.FieldRow.{FieldRow}

-- the channels, and how many data bytes and invalidation bytes a record has
pub record Layout : Type 0 where
  pub rows : List FieldRow
  pub data_bytes : ℕ
  pub inval_bytes : ℕ

-- how long a record is, without its id
abbrev pub record_size : Layout → ℕ
record_size layout = layout.data_bytes + layout.inval_bytes

-- no channel breaks a rule, so each has its place in the record; and there are fewer than 2^31
pub record IsRuled (layout : Layout) : Type 0 where
  pub few : length layout.rows < 2 ^ 31
  pub ruled : AreRuled layout.data_bytes layout.inval_bytes layout.rows (length layout.rows)
  pub placed : All (IsRowPlaced layout.data_bytes layout.inval_bytes) layout.rows

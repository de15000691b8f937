-- Which channels a recording stores.
use Rattle.std.specs.Prelude.{◌≡◌, ◌≢◌, false}
use Rattle.mdf_layout.specs.declared.field.FieldKind.TheVariants.{Variable, Virtual}
use Rattle.mdf_layout.specs.declared.field.FieldRow.{FieldRow}

-- Its values stand in the record and are not the index of it, some can be valid, and an offset has 64 bits.
pub record IsStored (row : FieldRow) : Type 0 where
  pub real : row.kind ≢ Virtual
  pub valid : row.all_invalid ≡ false
  pub wide : row.kind ≡ Variable → row.bits ≡ 64

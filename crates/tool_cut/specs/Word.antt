-- Fields whose numbers are read at once.
use Rattle.std.specs.Prelude.{◌≡◌, false}
use Rattle.mdf_layout.specs.declared.field.FieldKind.TheVariants.{Unsigned}
use Rattle.mdf_layout.specs.declared.field.FieldRow.{FieldRow}

-- an unsigned number, or the bits of a float, of eight whole bytes with the lowest first
pub record IsWord (row : FieldRow) : Type 0 where
  pub kind : row.kind ≡ Unsigned
  pub bit : row.bit ≡ 0
  pub bits : row.bits ≡ 64
  pub big : row.big ≡ false

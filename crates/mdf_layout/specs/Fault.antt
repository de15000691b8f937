-- Why a layout is refused, and why a record has no sample.
use Rattle.std.specs.Prelude.{ℕ, ◌≡◌, List, None}
use Rattle.mdf_format.specs.Field.{field_number}
use Rattle.mdf_layout.specs.Rule.{spot_in, IsFirstBad}
use Rattle.mdf_layout.specs.Values.{Finder, IsFirstMissing}
use Rattle.mdf_num.specs.declared.halt.Halt.{Halt}
use Rattle.mdf_num.specs.declared.halt.Halt.TheVariants as halts
use Rattle.mdf_layout.specs.declared.field.FieldKind.TheVariants.{Variable}
use Rattle.mdf_layout.specs.declared.reading.DecodeFault.{DecodeFault}
use Rattle.mdf_layout.specs.declared.reading.DecodeFault.TheVariants as decodes
use Rattle.mdf_layout.specs.declared.reading.Missing.{Missing}
use Rattle.mdf_layout.specs.declared.field.FieldRow.{FieldRow}
use Rattle.mdf_layout.specs.declared.shape.ShapeFault.{ShapeFault}
use Rattle.mdf_layout.specs.declared.shape.ShapeFault.TheVariants.{Bad, Memory}

-- the least channel that breaks a rule
abbrev pub ShapeCause : ℕ → ℕ → List FieldRow → ShapeFault → Type 0
ShapeCause data_bytes inval_bytes rows (Bad channel) = IsFirstBad data_bytes inval_bytes rows channel
ShapeCause data_bytes inval_bytes rows Memory = Unit {0}

-- the offset of the channel meets no value
pub record IsMissing (row : FieldRow) (bytes : List ℕ) (find : Finder) (offset : ℕ) : Type 0 where
  pub kind : row.kind ≡ Variable
  pub offset_is : offset ≡ field_number (spot_in row) bytes
  pub missing : find offset ≡ None

-- what a fault of a reader over a span says
abbrev pub OnFault : {E : Type 0} → (E → Type 0) → Halt E → Type 0
OnFault P (halts.Fault fault) = P fault
OnFault P halts.Failed = Unit {0}
OnFault P halts.Memory = Unit {0}

abbrev pub LackCause : FieldRow → List ℕ → Finder → Halt ℕ → Type 0
LackCause row bytes find lack = OnFault (IsMissing row bytes find) lack

abbrev pub MissingCause : List FieldRow → List ℕ → List ℕ → List Finder → ℕ → Halt Missing → Type 0
MissingCause rows bytes inval finders index halt =
    OnFault (λ missing. IsFirstMissing rows bytes inval finders index missing.channel missing.offset) halt

abbrev pub DecodeCause : List FieldRow → List ℕ → List ℕ → List Finder → ℕ → DecodeFault → Type 0
DecodeCause rows bytes inval finders index (decodes.Offset channel offset) = IsFirstMissing rows bytes inval finders index channel offset
DecodeCause rows bytes inval finders index decodes.Memory = Unit {0}

-- why channel k has no value, as why the record has no sample
abbrev pub missing_at : ℕ → Halt ℕ → Halt Missing
missing_at channel (halts.Fault offset) = halts.Fault (record { channel = channel; offset = offset })
missing_at channel halts.Failed = halts.Failed
missing_at channel halts.Memory = halts.Memory

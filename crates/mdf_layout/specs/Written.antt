-- Values written into a record.
use Rattle.std.specs.Prelude.{ℕ, ◌≡◌, ◌/◌, ◌%◌, ◌^◌, ◌<◌, Bool, true, if◌then◌else◌, List, length, All, AllPairs, Some, None}
use Rattle.std.specs.List.{slice_index_or}
use Rattle.mdf_format.specs.Field.{Spot, HasBit, bit_of, field_number}
use Rattle.mdf_bits.specs.Field.{IsSignedOf}
use Rattle.mdf_layout.specs.Rule.{spot_in}
use Rattle.mdf_layout.specs.Values.{Finder, value_in, finder_at, streams_before}
use Rattle.mdf_layout.specs.declared.field.FieldKind.{FieldKind}
use Rattle.mdf_layout.specs.declared.field.FieldKind.TheVariants.{Unsigned, Signed, Fixed, Variable, Virtual}
use Rattle.mdf_layout.specs.declared.field.FieldRow.{FieldRow}
use Rattle.mdf_layout.specs.declared.sample.Value.{Value}
use Rattle.mdf_layout.specs.declared.sample.Value.TheVariants as value
use Rattle.mdf_layout.specs.declared.sample.Entry.{Entry}

-- a value that a channel of a kind with so many bits can have: a number that the bits hold, so many bytes, fewer than
-- 2^32 bytes, or an index
abbrev pub ValueFits : FieldKind → ℕ → Value → Type 0
ValueFits Unsigned bits (value.Unsigned n) = n < 2 ^ bits
ValueFits Signed bits (value.Signed z) = IsSignedOf bits z
ValueFits Fixed bits (value.Bytes b) = length b ≡ bits / 8
ValueFits Variable bits (value.Bytes b) = length b < 2 ^ 32
ValueFits Virtual bits (value.Index n) = Unit {0}
ValueFits _ bits _ = ⊥

-- an entry that a channel can have: it is invalid only where the channel has an invalidation bit
pub record IsEntryOf (row : FieldRow) (entry : Entry) : Type 0 where
  pub value : ValueFits row.kind row.bits entry.value
  pub valid : row.inval ≡ None → entry.valid ≡ true

-- one entry for each channel, which it can have
pub record AreEntriesOf (rows : List FieldRow) (values : List Entry) : Type 0 where
  pub count : length values ≡ length rows
  pub each : (k : ℕ) (row : FieldRow) (entry : Entry) → k < length rows → IsEntryOf (slice_index_or rows k row) (slice_index_or values k entry)

-- a field of whole bytes
pub record IsWhole (spot : Spot) : Type 0 where
  pub bit : spot.bit ≡ 0
  pub bits : spot.bits % 8 ≡ 0

-- two channels have one position of an invalidation bit
pub record SharesPosition (one other : FieldRow) : Type 0 where
  pub p : ℕ
  pub first : one.inval ≡ Some p
  pub second : other.inval ≡ Some p

-- no bit of a record belongs to both channels, in the data bytes or in the invalidation bytes
pub record IsApart (row other : FieldRow) : Type 0 where
  pub fields : (p : ℕ) → HasBit (spot_in row) p → ¬ HasBit (spot_in other) p
  pub positions : (p : ℕ) → row.inval ≡ Some p → other.inval ≡ Some p → ⊥

abbrev pub AreApart : List FieldRow → Type 0
AreApart rows = AllPairs IsApart rows

-- no channel has this bit of the data bytes, or of the invalidation bytes
abbrev pub IsFree : List FieldRow → ℕ → Type 0
IsFree rows p = All (λ row. ¬ HasBit (spot_in row) p) rows

-- each of the first bits of the data bytes is one of a channel's
abbrev pub AreFilled : List FieldRow → ℕ → Type 0
AreFilled rows count = (p : ℕ) → p < count → ¬ IsFree rows p

abbrev pub IsFreePosition : List FieldRow → ℕ → Type 0
IsFreePosition rows p = All (λ row. row.inval ≡ Some p → ⊥) rows

-- the offset of channel k, of those of the channels of variable length in order
abbrev pub offset_of : List FieldRow → List ℕ → ℕ → ℕ
offset_of rows offsets k = slice_index_or offsets (streams_before rows k) 0

-- the fields of variable length hold their offsets
abbrev pub OffsetsFit : List FieldRow → List ℕ → Type 0
OffsetsFit rows offsets = (k : ℕ) (row : FieldRow) → k < length rows → (slice_index_or rows k row).kind ≡ Variable
    → offset_of rows offsets k < 2 ^ (slice_index_or rows k row).bits

-- the field holds the value, or the offset of it
abbrev pub HoldsValue : FieldKind → Spot → List ℕ → ℕ → Value → Type 0
HoldsValue Unsigned spot bytes offset v = value_in Unsigned spot bytes (λ o. None) 0 ≡ Some v
HoldsValue Signed spot bytes offset v = value_in Signed spot bytes (λ o. None) 0 ≡ Some v
HoldsValue Fixed spot bytes offset v = value_in Fixed spot bytes (λ o. None) 0 ≡ Some v
HoldsValue Variable spot bytes offset v = field_number spot bytes ≡ offset
HoldsValue Virtual spot bytes offset v = Unit {0}

-- the invalidation bit is 1 exactly where the value is invalid
abbrev pub HoldsMark : FieldRow → List ℕ → Bool → Type 0
HoldsMark row inval valid = (p : ℕ) → row.inval ≡ Some p → bit_of inval p ≡ (if valid then 0 else 1)

-- the value of a channel of variable length is found at its offset, and an index is that of the record
abbrev pub IsFound : FieldKind → ℕ → Finder → ℕ → Value → Type 0
IsFound Variable offset find index (value.Bytes b) = find offset ≡ Some b
IsFound Virtual offset find index (value.Index n) = n ≡ index
IsFound _ offset find index _ = Unit {0}

abbrev pub AreFound : List FieldRow → List Entry → List ℕ → List Finder → ℕ → Type 0
AreFound rows values offsets finders index = (k : ℕ) (row : FieldRow) (entry : Entry) → k < length rows
    → IsFound (slice_index_or rows k row).kind (offset_of rows offsets k) (finder_at finders (streams_before rows k)) index
    (slice_index_or values k entry).value

-- the fields of the first n channels hold their values
abbrev pub HoldValues : List FieldRow → List Entry → List ℕ → ℕ → List ℕ → Type 0
HoldValues rows values offsets n bytes = (k : ℕ) (row : FieldRow) (entry : Entry) → k < n
    → HoldsValue (slice_index_or rows k row).kind (spot_in (slice_index_or rows k row)) bytes (offset_of rows offsets k)
    (slice_index_or values k entry).value

-- and their invalidation bits say which are valid
abbrev pub HoldMarks : List FieldRow → List Entry → ℕ → List ℕ → Type 0
HoldMarks rows values n inval = (k : ℕ) (row : FieldRow) (entry : Entry) → k < n
    → HoldsMark (slice_index_or rows k row) inval (slice_index_or values k entry).valid

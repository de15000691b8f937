-- The sample of a record: what its data bytes, its invalidation bytes and the streams of its channels of variable length
-- say of each channel.
use Rattle.std.specs.Prelude.{ℕ, ◌≡◌, ◌/◌, Bool, true, not, ◌&&◌, nat_eq, if◌then◌else◌, List, [], ◌∷◌, length, take, drop, map, filter, slice_get, Option, Some, None}
use Rattle.std.specs.Option.{option_map, option_map_or, option_and_then}
use Rattle.mdf_format.specs.Number.{bytes_at}
use Rattle.mdf_format.specs.Field.{Spot, bit_of, field_number, signed_number}
use Rattle.mdf_vlsd.specs.Value.{value_at}
use Rattle.mdf_layout.specs.Rule.{spot_in, is_variable, IsPlacedAs, IsInvalIn}
use Rattle.mdf_layout.specs.declared.field.FieldKind.{FieldKind}
use Rattle.mdf_layout.specs.declared.field.FieldKind.TheVariants.{Unsigned, Signed, Fixed, Variable, Virtual}
use Rattle.mdf_layout.specs.declared.field.FieldRow.{FieldRow}
use Rattle.mdf_layout.specs.declared.sample.Value.{Value}
use Rattle.mdf_layout.specs.declared.sample.Value.TheVariants as value
use Rattle.mdf_layout.specs.declared.sample.Entry.{Entry}

-- what finds a value of variable length by its offset
abbrev pub Finder : Type 0
Finder = ℕ → Option (List ℕ)

-- the value of a channel of a kind with this field: a number, a signed number, bytes, the value at an offset, or the
-- index of the record
abbrev pub value_in : FieldKind → Spot → List ℕ → Finder → ℕ → Option Value
value_in Unsigned spot bytes find index = Some (value.Unsigned (field_number spot bytes))
value_in Signed spot bytes find index = Some (value.Signed (signed_number spot.bits (field_number spot bytes)))
value_in Fixed spot bytes find index = Some (value.Bytes (bytes_at (spot.bits / 8) bytes spot.byte))
value_in Variable spot bytes find index = option_map value.Bytes (find (field_number spot bytes))
value_in Virtual spot bytes find index = Some (value.Index index)

-- the bytes of a value of fixed or of variable length
abbrev pub bytes_in : Value → List ℕ
bytes_in (value.Unsigned n) = []
bytes_in (value.Signed n) = []
bytes_in (value.Bytes b) = b
bytes_in (value.Index n) = []

-- whether it is valid: not where all its values are invalid, nor where its invalidation bit is 1
abbrev pub is_valid : FieldRow → List ℕ → Bool
is_valid row inval = not row.all_invalid && option_map_or (λ p. not (nat_eq (bit_of inval p) 1)) row.inval true

-- the entry of a channel
abbrev pub entry_of : FieldRow → List ℕ → List ℕ → Finder → ℕ → Option Entry
entry_of row bytes inval find index =
    option_map (λ v. record { value = v; valid = is_valid row inval }) (value_in row.kind (spot_in row) bytes find index)

-- of finders, the first, and those for the channels behind this one
abbrev pub first_finder : List Finder → Finder
first_finder [] = λ offset. None
first_finder (find ∷ finders) = find

abbrev pub finders_behind : FieldRow → List Finder → List Finder
finders_behind row finders = if is_variable row then drop 1 finders else finders

-- the entries of the channels in order, where each channel of variable length has its finder
unfoldable pub sample_by : List FieldRow → List ℕ → List ℕ → List Finder → ℕ → Option (List Entry)
sample_by [] bytes inval finders index = Some []
sample_by (row ∷ rows) bytes inval finders index = option_and_then
    (λ entry. option_map (λ entries. entry ∷ entries) (sample_by rows bytes inval (finders_behind row finders) index))
    (entry_of row bytes inval (first_finder finders) index)

-- the sample of a record with these streams; it is undefined where an offset meets no value
abbrev pub sample_of : List FieldRow → List ℕ → List ℕ → List (List ℕ) → ℕ → Option (List Entry)
sample_of rows bytes inval streams index = sample_by rows bytes inval (map value_at streams) index

-- how many channels of variable length stand before channel k, and the finder of such a channel
abbrev pub streams_before : List FieldRow → ℕ → ℕ
streams_before rows k = length (filter is_variable (take k rows))

abbrev pub finder_at : List Finder → ℕ → Finder
finder_at finders next = first_finder (drop next finders)

-- each channel has its place in so many data bytes and invalidation bytes
pub record IsRowPlaced (data_bytes inval_bytes : ℕ) (row : FieldRow) : Type 0 where
  pub field : IsPlacedAs row.kind data_bytes (spot_in row)
  pub position : IsInvalIn inval_bytes row.inval

-- the least channel whose offset meets no value
pub record IsFirstMissing (rows : List FieldRow) (bytes inval : List ℕ) (finders : List Finder) (index channel offset : ℕ) : Type 0 where
  pub row : FieldRow
  pub there : slice_get rows channel ≡ Some row
  pub kind : row.kind ≡ Variable
  pub offset_is : offset ≡ field_number (spot_in row) bytes
  pub missing : finder_at finders (streams_before rows channel) offset ≡ None
  pub entries : List Entry
  pub earlier : sample_by (take channel rows) bytes inval finders index ≡ Some entries

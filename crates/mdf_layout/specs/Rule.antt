-- The rules that the channels of a layout keep, and a test of them.
use Rattle.std.specs.Prelude.{ℕ, zero, suc, ◌≡◌, ◌≢◌, ◌+◌, ◌*◌, ◌/◌, ◌%◌, ◌<◌, ◌⊎◌, Bool, true, false, ◌&&◌, ◌||◌, not, nat_eq, nat_le, nat_lt, List, length, slice_get, Option, Some}
use Rattle.std.specs.Option.{option_map_or}
use Rattle.std.specs.List.{slice_index_or}
use Rattle.mdf_format.specs.Field.{Spot, covered_end, place_of}
use Rattle.mdf_format.specs.Row.{IsNumberPlaced, AreBytesPlaced, SharesBit}
use Rattle.mdf_bits.specs.Field.{bit_within}
use Rattle.mdf_layout.specs.declared.field.FieldKind.{FieldKind}
use Rattle.mdf_layout.specs.declared.field.FieldKind.TheVariants.{Unsigned, Signed, Fixed, Variable, Virtual}
use Rattle.mdf_layout.specs.declared.field.FieldRow.{FieldRow}

-- how many bits of a record are the channel's, and where they are: a virtual one has none
abbrev pub bits_in : FieldKind → ℕ → ℕ
bits_in Unsigned bits = bits
bits_in Signed bits = bits
bits_in Fixed bits = bits
bits_in Variable bits = bits
bits_in Virtual bits = 0

abbrev pub spot_in : FieldRow → Spot
spot_in row = record { byte = row.byte; bit = row.bit; bits = bits_in row.kind row.bits; big = row.big }

-- whether its value is of variable length
abbrev pub is_variable_kind : FieldKind → Bool
is_variable_kind Unsigned = false
is_variable_kind Signed = false
is_variable_kind Fixed = false
is_variable_kind Variable = true
is_variable_kind Virtual = false

abbrev pub is_variable : FieldRow → Bool
is_variable row = is_variable_kind row.kind

-- its field has its place in so many data bytes
abbrev pub IsPlacedAs : FieldKind → ℕ → Spot → Type 0
IsPlacedAs Unsigned data_bytes spot = IsNumberPlaced data_bytes spot
IsPlacedAs Signed data_bytes spot = IsNumberPlaced data_bytes spot
IsPlacedAs Fixed data_bytes spot = AreBytesPlaced data_bytes spot
IsPlacedAs Variable data_bytes spot = IsNumberPlaced data_bytes spot
IsPlacedAs Virtual data_bytes spot = Unit {0}

-- its invalidation bit, where it has one, has its place in so many invalidation bytes
abbrev pub IsInvalIn : ℕ → Option ℕ → Type 0
IsInvalIn inval_bytes inval = (p : ℕ) → inval ≡ Some p → p / 8 < inval_bytes

-- Channel k breaks a rule: its field has no place, or its invalidation bit has none, or it is the offset of a value of
-- variable length and shares a bit with another channel's field.
abbrev pub BreaksRule : ℕ → ℕ → List FieldRow → ℕ → FieldRow → Type 0
BreaksRule data_bytes inval_bytes rows k row =
    (¬ IsPlacedAs row.kind data_bytes (spot_in row))
    ⊎ ((¬ IsInvalIn inval_bytes row.inval)
    ⊎ ((row.kind ≡ Variable)
    × ((j : ℕ) × (other : FieldRow) × (j ≢ k) × (slice_get rows j ≡ Some other) × SharesBit (spot_in row) (spot_in other))))

-- the same as tests that compute: whether one of the numbers below n passes
unfoldable pub any_below : ℕ → (ℕ → Bool) → Bool
any_below zero test = false
any_below (suc n) test = test n || any_below n test

-- whether bit p of the record is one of the field's, and whether two fields share one
abbrev pub is_among : Spot → ℕ → Bool
is_among spot k = nat_le spot.bit k && nat_lt k (spot.bit + spot.bits)

abbrev pub has_bit : Spot → ℕ → Bool
has_bit spot p = nat_le (8 * spot.byte) p && (nat_lt p (8 * covered_end spot) && is_among spot (bit_within spot p))

abbrev pub shares_bit : Spot → Spot → Bool
shares_bit one other = any_below one.bits (λ i. has_bit other (place_of one (one.bit + i)))

abbrev pub is_number_placed : ℕ → Spot → Bool
is_number_placed data_bytes spot =
    nat_le spot.bit 7 && (nat_le 1 spot.bits && (nat_le spot.bits 64 && nat_le (covered_end spot) data_bytes))

abbrev pub are_bytes_placed : ℕ → Spot → Bool
are_bytes_placed data_bytes spot = nat_eq spot.bit 0 && (nat_eq (spot.bits % 8) 0 && nat_le (covered_end spot) data_bytes)

abbrev pub is_placed : FieldKind → ℕ → Spot → Bool
is_placed Unsigned data_bytes spot = is_number_placed data_bytes spot
is_placed Signed data_bytes spot = is_number_placed data_bytes spot
is_placed Fixed data_bytes spot = are_bytes_placed data_bytes spot
is_placed Variable data_bytes spot = is_number_placed data_bytes spot
is_placed Virtual data_bytes spot = true

abbrev pub is_inval_placed : ℕ → Option ℕ → Bool
is_inval_placed inval_bytes inval = option_map_or (λ p. nat_lt (p / 8) inval_bytes) inval true

abbrev pub meets_at : List FieldRow → ℕ → FieldRow → ℕ → Bool
meets_at rows k row j = not (nat_eq j k) && option_map_or (λ other. shares_bit (spot_in row) (spot_in other)) (slice_get rows j) false

-- whether channel k breaks a rule
abbrev pub breaks_row_rule : ℕ → ℕ → List FieldRow → ℕ → FieldRow → Bool
breaks_row_rule data_bytes inval_bytes rows k row =
    not (is_placed row.kind data_bytes (spot_in row))
    || (not (is_inval_placed inval_bytes row.inval)
    || (is_variable row && any_below (length rows) (meets_at rows k row)))

-- the first n channels break none
abbrev pub AreRuled : ℕ → ℕ → List FieldRow → ℕ → Type 0
AreRuled data_bytes inval_bytes rows n =
    (k : ℕ) (d : FieldRow) → k < n → breaks_row_rule data_bytes inval_bytes rows k (slice_index_or rows k d) ≡ false

-- the least channel that breaks one
pub record IsFirstBad (data_bytes inval_bytes : ℕ) (rows : List FieldRow) (channel : ℕ) : Type 0 where
  pub there : channel < length rows
  pub breaks : (d : FieldRow) → breaks_row_rule data_bytes inval_bytes rows channel (slice_index_or rows channel d) ≡ true
  pub first : AreRuled data_bytes inval_bytes rows channel

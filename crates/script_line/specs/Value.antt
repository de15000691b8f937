-- The values of a sample.
use Rattle.std.specs.Prelude.{ℕ, ◌≡◌, ◌≤◌, ◌-◌, ◌/◌, ◌^◌, Bool, true, false, ◌&&◌, ◌==◌, nat_le, nat_lt, if◌then◌else◌, List, [], ◌∷◌, length, take, drop, Option, Some, None, is_some, pos, neg_ℤ}
use Rattle.std.specs.Option.{option_map, option_and_then}
use Rattle.std.specs.Result.{result_ok}
use Rattle.std.specs.List.{list_any}
use Rattle.std.specs.Char.{is_ascii_uppercase}
use Rattle.hex.specs.Hex.{decode_of}
use Rattle.mdf_layout.specs.declared.field.FieldKind.{FieldKind}
use Rattle.mdf_layout.specs.declared.field.FieldKind.TheVariants as kinds
use Rattle.mdf_layout.specs.declared.field.FieldRow.{FieldRow}
use Rattle.mdf_layout.specs.declared.sample.Value.{Value}
use Rattle.mdf_layout.specs.declared.sample.Value.TheVariants.{Unsigned, Signed, Bytes}
use Rattle.mdf_layout.specs.declared.sample.Entry.{Entry}
use Rattle.script_line.specs.Float.{float_bits}
use Rattle.script_line.specs.Number.{number_of}
use Rattle.script_line.specs.Text.{begins_with, is_marked}
use Rattle.script_line.specs.declared.float.Width.{Width}

-- a number of so many bits
abbrev pub held_in : ℕ → ℕ → Option Value
held_in bits n = if nat_lt n (2 ^ bits) then Some (Unsigned n) else None

unfoldable pub unsigned_value : ℕ → List ℕ → Option Value
unsigned_value bits word = option_and_then (held_in bits) (number_of word)

-- a number of so many bits in two's complement: from -2^(bits-1) to 2^(bits-1) - 1; behind a `-` stands no 0
abbrev pub negative_in : ℕ → ℕ → Option Value
negative_in bits n = if nat_le 1 n && nat_le n (2 ^ (bits - 1)) then Some (Signed (neg_ℤ (pos n))) else None

abbrev pub positive_in : ℕ → ℕ → Option Value
positive_in bits n = if nat_lt n (2 ^ (bits - 1)) then Some (Signed (pos n)) else None

unfoldable pub signed_value : ℕ → List ℕ → Option Value
signed_value bits word =
    if begins_with 45 word then option_and_then (negative_in bits) (number_of (drop 1 word))
    else option_and_then (positive_in bits) (number_of word)

-- the bytes that pairs of hexadecimal digits are, whose letters are small
unfoldable pub pairs_of : List ℕ → Option (List ℕ)
pairs_of digits = if list_any is_ascii_uppercase digits then None else result_ok (decode_of digits)

-- `x` and two digits for each byte
unfoldable pub bytes_of : List ℕ → Option (List ℕ)
bytes_of word = if begins_with 120 word then pairs_of (drop 1 word) else None

-- a value of so many bytes
abbrev pub sized : ℕ → List ℕ → Option Value
sized size bytes = if length bytes == size then Some (Bytes bytes) else None

unfoldable pub fixed_value : ℕ → List ℕ → Option Value
fixed_value size word = option_and_then (sized size) (bytes_of word)

-- a value of variable length: at most 65,535 bytes
abbrev pub short : List ℕ → Option Value
short bytes = if nat_le (length bytes) 65535 then Some (Bytes bytes) else None

unfoldable pub long_value : List ℕ → Option Value
long_value word = option_and_then short (bytes_of word)

-- a channel of signed numbers has 1 to 64 bits
abbrev pub IsReadable : FieldRow → Type 0
IsReadable row = row.kind ≡ kinds.Signed → (1 ≤ row.bits) × (row.bits ≤ 64)

-- the value that a word is for a channel of this kind and so many bits
abbrev pub value_as : FieldKind → ℕ → List ℕ → Option Value
value_as kinds.Unsigned bits word = unsigned_value bits word
value_as kinds.Signed bits word = signed_value bits word
value_as kinds.Fixed bits word = fixed_value (bits / 8) word
value_as kinds.Variable bits word = long_value word
value_as kinds.Virtual bits word = None

unfoldable pub value_of : FieldRow → List ℕ → Option Value
value_of row word = value_as row.kind row.bits word

-- the value that a number is for a channel of numbers
abbrev pub number_value : FieldKind → ℕ → ℕ → Option Value
number_value kinds.Unsigned bits n = held_in bits n
number_value kinds.Signed bits n = positive_in bits n
number_value _ bits n = None

-- the value that a word is for a channel that takes floats of this width: the bits of the float that it says
abbrev pub float_value : Width → FieldRow → List ℕ → Option Value
float_value width row word = option_and_then (number_value row.kind row.bits) (float_bits width word)

abbrev pub value_in : Option Width → FieldRow → List ℕ → Option Value
value_in None row word = value_of row word
value_in (Some width) row word = float_value width row word

-- the entry that it is: a `?` behind the value says that it is invalid, where the channel has an invalidation bit
abbrev pub entry_with : Bool → Value → Entry
entry_with valid value = record { value = value; valid = valid }

unfoldable pub entry_of : Option Width → FieldRow → List ℕ → Option Entry
entry_of width row word =
    if is_marked word
    then (if is_some row.inval then option_map (entry_with false) (value_in width row (take (length word - 1) word)) else None)
    else option_map (entry_with true) (value_in width row word)

-- the width of the first of these channels, if it takes floats; a channel past the end takes none
abbrev pub first_width : List (Option Width) → Option Width
first_width [] = None
first_width (width ∷ widths) = width

-- the entries that words are, one for each channel, of which the first take floats of these widths
unfoldable pub entries_of : List (Option Width) → List FieldRow → List (List ℕ) → Option (List Entry)
entries_of widths [] [] = Some []
entries_of widths (row ∷ rows) (word ∷ words) =
    option_and_then (λ entry. option_map (λ entries. entry ∷ entries) (entries_of (drop 1 widths) rows words)) (entry_of (first_width widths) row word)
entries_of widths _ _ = None

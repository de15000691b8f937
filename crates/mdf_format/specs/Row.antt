-- The channels of a record: what form the value of each has, where its bits are, and the rules that they keep.
use Rattle.std.specs.Prelude.{ℕ, ◌≡◌, ◌≢◌, ◌/◌, ◌%◌, ◌≤◌, ◌<◌, ◌⊎◌, Bool, ◌&&◌, ◌||◌, not, nat_eq, nat_lt, if◌then◌else◌, List, slice_get, Some}
use Rattle.mdf_format.specs.Field.{Spot, covered_end, HasBit}

-- what the row of a channel says of its place in a record: its kind and its data type, its first byte, the first bit in
-- that byte, how many bits it has, its flags, and the position of its invalidation bit
pub record RowNumbers : Type 0 where
  pub kind : ℕ
  pub data_type : ℕ
  pub byte : ℕ
  pub bit : ℕ
  pub bits : ℕ
  pub flags : ℕ
  pub inval : ℕ

-- a number, a number in two's complement, so many bytes, the offset of a value of variable length, or no field at all
pub data Form : Type 0 where
  Unsigned : Form
  Signed : Form
  Fixed : Form
  Variable : Form
  Virtual : Form

-- a virtual master and virtual data have no field; a channel of variable length has an offset; else the data types 0, 1,
-- 4 and 5 are numbers, 2 and 3 are signed numbers, and those from 6 on are bytes
abbrev pub form_of : RowNumbers → Form
form_of row =
    if nat_eq row.kind 3 || nat_eq row.kind 6 then Virtual
    else (if nat_eq row.kind 1 then Variable
    else (if nat_eq row.data_type 2 || nat_eq row.data_type 3 then Signed
    else (if nat_lt row.data_type 6 then Unsigned else Fixed)))

-- the data types 1, 3 and 5 are big-endian; an offset never is
abbrev pub is_big : RowNumbers → Bool
is_big row = not (nat_eq row.kind 1) && (nat_eq row.data_type 1 || nat_eq row.data_type 3 || nat_eq row.data_type 5)

-- how many bits of a record are the channel's
abbrev pub field_bits : Form → ℕ → ℕ
field_bits Virtual bits = 0
field_bits _ bits = bits

-- where they are
abbrev pub spot_of_row : RowNumbers → Spot
spot_of_row row = record { byte = row.byte; bit = row.bit; bits = field_bits (form_of row) row.bits; big = is_big row }

-- a number of 1 to 64 bits, from one of the first eight bits on, inside the data bytes
pub record IsNumberPlaced (data_bytes : ℕ) (spot : Spot) : Type 0 where
  pub bit : spot.bit ≤ 7
  pub some : 1 ≤ spot.bits
  pub few : spot.bits ≤ 64
  pub inside : covered_end spot ≤ data_bytes

-- whole bytes inside the data bytes
pub record AreBytesPlaced (data_bytes : ℕ) (spot : Spot) : Type 0 where
  pub bit : spot.bit ≡ 0
  pub whole : spot.bits % 8 ≡ 0
  pub inside : covered_end spot ≤ data_bytes

-- the field of a channel of this form has its place in so many data bytes
abbrev pub IsPlaced : Form → ℕ → Spot → Type 0
IsPlaced Unsigned data_bytes spot = IsNumberPlaced data_bytes spot
IsPlaced Signed data_bytes spot = IsNumberPlaced data_bytes spot
IsPlaced Fixed data_bytes spot = AreBytesPlaced data_bytes spot
IsPlaced Variable data_bytes spot = IsNumberPlaced data_bytes spot
IsPlaced Virtual data_bytes spot = Unit {0}

-- bit 1 of the flags: the position of the invalidation bit is used
abbrev pub UsesInval : RowNumbers → Type 0
UsesInval row = row.flags / 2 % 2 ≡ 1

-- a position that is used lies in so many invalidation bytes
abbrev pub IsInvalPlaced : ℕ → RowNumbers → Type 0
IsInvalPlaced inval_bytes row = UsesInval row → row.inval / 8 < inval_bytes

-- a bit of the record belongs to both fields
pub record SharesBit (one other : Spot) : Type 0 where
  pub p : ℕ
  pub first : HasBit one p
  pub second : HasBit other p

-- Row k of these breaks a rule: its field has no place, or its invalidation bit has none, or it is the offset of a value
-- of variable length and shares a bit with another channel's field.
abbrev pub BreaksRowRule : ℕ → ℕ → List RowNumbers → ℕ → RowNumbers → Type 0
BreaksRowRule data_bytes inval_bytes rows k row =
    (¬ IsPlaced (form_of row) data_bytes (spot_of_row row))
    ⊎ ((¬ IsInvalPlaced inval_bytes row)
    ⊎ ((form_of row ≡ Variable)
    × ((j : ℕ) × (other : RowNumbers) × (j ≢ k) × (slice_get rows j ≡ Some other) × SharesBit (spot_of_row row) (spot_of_row other))))

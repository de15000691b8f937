-- Bits of a record, and fields of bits.
use Rattle.std.specs.Prelude.{ℕ, ◌≡◌, ◌+◌, ◌-◌, ◌*◌, ◌/◌, ◌%◌, ◌^◌, ◌≤◌, ◌<◌, Bool, true, false, List, [], ◌∷◌, take, drop, reverse, get_or, nat_lt, if◌then◌else◌, ℤ, pos, neg_ℤ}
use Rattle.std.specs.Int.{bit_at}

-- where a field lies in a record: the first of its bytes, the first bit in them, its number of bits, and whether the
-- bytes are big-endian
pub record Spot : Type 0 where
  pub byte : ℕ
  pub bit : ℕ
  pub bits : ℕ
  pub big : Bool

-- how many bytes the field touches, and the place behind them
abbrev pub covered_size : Spot → ℕ
covered_size spot = (spot.bit + spot.bits + 7) / 8

abbrev pub covered_end : Spot → ℕ
covered_end spot = spot.byte + covered_size spot

-- bytes of either order, the lowest first
abbrev pub lowest_first : Bool → List ℕ → List ℕ
lowest_first true bytes = reverse bytes
lowest_first false bytes = bytes

-- the bytes that the field touches, the lowest first
abbrev pub covered_bytes : Spot → List ℕ → List ℕ
covered_bytes spot bytes = lowest_first spot.big (take (covered_size spot) (drop spot.byte bytes))

-- the bits of bytes, each byte's lowest first
abbrev pub bits_of : List ℕ → List ℕ
bits_of [] = []
bits_of (b ∷ bytes) =
    bit_at b 0 ∷ bit_at b 1 ∷ bit_at b 2 ∷ bit_at b 3 ∷ bit_at b 4 ∷ bit_at b 5 ∷ bit_at b 6 ∷ bit_at b 7 ∷ bits_of bytes

-- the number that bits are, the lowest first
abbrev pub weight_of : List ℕ → ℕ
weight_of [] = 0
weight_of (b ∷ bits) = b + 2 * weight_of bits

-- the number of a field
abbrev pub field_number : Spot → List ℕ → ℕ
field_number spot bytes = weight_of (take spot.bits (drop spot.bit (bits_of (covered_bytes spot bytes))))

-- a number of so many bits as two's complement
abbrev pub signed_number : ℕ → ℕ → ℤ
signed_number bits n = if nat_lt n (2 ^ (bits - 1)) then pos n else neg_ℤ (pos (2 ^ bits - n))

-- bit p of bytes, counted from the lowest bit of the first byte
abbrev pub bit_of : List ℕ → ℕ → ℕ
bit_of bytes p = bit_at (get_or bytes (p / 8) 0) (p % 8)

-- where bit k of the covered bytes lies in the record
abbrev pub place_of : Spot → ℕ → ℕ
place_of spot k =
    if spot.big then 8 * (spot.byte + (covered_size spot - 1 - k / 8)) + k % 8 else 8 * spot.byte + k

-- bit p of the record is one of the field's
pub record HasBit (spot : Spot) (p : ℕ) : Type 0 where
  pub k : ℕ
  pub low : spot.bit ≤ k
  pub high : k < spot.bit + spot.bits
  pub there : p ≡ place_of spot k

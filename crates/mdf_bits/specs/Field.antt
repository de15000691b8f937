-- A `Field` as the place that the words on fields of bits speak of.
use Rattle.std.specs.Prelude.{ℕ, ◌+◌, ◌-◌, ◌*◌, ◌/◌, ◌%◌, ◌^◌, if◌then◌else◌, ℤ, pos, neg_ℤ, ◌<ℤ◌, ◌≤ℤ◌}
use Rattle.mdf_format.specs.Field.{Spot, covered_size}
use Rattle.mdf_bits.specs.declared.place.Field.{Field}

abbrev pub spot_of : Field → Spot
spot_of field = record { byte = field.byte; bit = field.bit; bits = field.bits; big = field.big }

-- which bit of the bytes that a field touches is bit p of the record, where p is one of theirs
abbrev pub bit_within : Spot → ℕ → ℕ
bit_within s p = if s.big then 8 * (covered_size s - 1 - (p / 8 - s.byte)) + p % 8 else p - 8 * s.byte

-- a number that so many bits hold as two's complement
pub record IsSignedOf (bits : ℕ) (number : ℤ) : Type 0 where
  pub low : neg_ℤ (pos (2 ^ (bits - 1))) ≤ℤ number
  pub high : number <ℤ pos (2 ^ (bits - 1))

-- Fields that share a bit, and channels that lie apart.
use Rattle.std.proofs.Common.{◌≡◌, ◌≤◌, ◌<◌, ◌+◌, ◌*◌, ◌/◌, ◌↔◌, ℕ, Bool, true, not, arith}
use Rattle.std.specs.Prelude.{max, min}
use Rattle.std.proofs.lemmas.Bool.{not-true, both_ways}
use Rattle.mdf_format.specs.Field.{Spot, HasBit, covered_size, covered_end}
use Rattle.mdf_format.specs.Row.{AreBytesPlaced, SharesBit}
use Rattle.mdf_bits.proofs.Spots.{comes_from}
use Rattle.mdf_layout.specs.Rule.{spot_in}
use Rattle.mdf_layout.specs.Written.{IsWhole, IsApart}
use Rattle.mdf_layout.specs.declared.field.FieldRow.{FieldRow}
use Rattle.mdf_layout.proofs.Stays.{bytes_have}

placed : (s : Spot) → IsWhole s → AreBytesPlaced (covered_end s) s
placed s whole = record { bit = whole.bit; whole = whole.bits; inside = omega arith }

-- where the bits of whole bytes lie
pub record LiesIn (s : Spot) (p : ℕ) : Type 0 where
  pub low : 8 * s.byte ≤ p
  pub high : p < 8 * (s.byte + s.bits / 8)

lies_in : (s : Spot) (p : ℕ) → IsWhole s → HasBit s p → LiesIn s p
lies_in s p whole has =
    let within : has.k < 8 * covered_size s = omega (arith, has.high) in
    let from = comes_from s p has.k within has.there in
    record { low = from.low; high = omega (arith, from.high, whole.bit, whole.bits) }

-- two fields of whole bytes share a bit exactly where a byte is of both
pub share_from : (one other : Spot) → IsWhole one → IsWhole other
    → max one.byte other.byte < min (one.byte + one.bits / 8) (other.byte + other.bits / 8) → SharesBit one other
share_from one other whole whole' less = record {
  p = 8 * max one.byte other.byte;
  first = bytes_have (covered_end one) one (8 * max one.byte other.byte) (placed one whole) (omega arith) (omega (arith, less));
  second = bytes_have (covered_end other) other (8 * max one.byte other.byte) (placed other whole') (omega arith) (omega (arith, less));
}

pub share_to : (one other : Spot) → IsWhole one → IsWhole other → SharesBit one other
    → max one.byte other.byte < min (one.byte + one.bits / 8) (other.byte + other.bits / 8)
share_to one other whole whole' shares =
    let first = lies_in one shares.p whole shares.first in
    let second = lies_in other shares.p whole' shares.second in
    omega (arith, first.low, first.high, second.low, second.high)

pub share_back : (one other : Spot) → SharesBit one other → SharesBit other one
share_back one other shares = record { p = shares.p; first = shares.second; second = shares.first }

-- channels that share a bit do not lie apart
pub not_apart : (b : Bool) (one other : FieldRow) → ((b ≡ true) ↔ SharesBit (spot_in one) (spot_in other)) → b ≡ true
    → (not b ≡ true) ↔ IsApart one other
not_apart b one other shares met = (
  λ is. absurd (both_ways b (not-true b is) met),
  λ apart. let s = shares.0 met in absurd (apart.fields s.p s.first s.second),
)

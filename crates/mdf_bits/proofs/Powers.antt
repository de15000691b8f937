-- Powers of two: a number below more of its bits, and the two halves of the numbers of so many bits.
use Rattle.std.proofs.Common.{◌≡◌, ◌≢◌, ◌≤◌, ◌+◌, ◌-◌, ◌*◌, ◌/◌, ◌^◌, ℕ, ◌∙◌, ap, arith, inl, inr}
use Rattle.std.proofs.Math.Nat.{pow-le-pow_right, div-eq_of_lt}
use Rattle.std.proofs.lemmas.Bool.{cases_lt}
use Rattle.std.proofs.lemmas.Nat.{pow-add}
use Rattle.std.proofs.lemmas.Nat.Bits.{ones_shr}

-- numbers of so many bits, at most 64
pub record HasHalves (bits : ℕ) : Type 0 where
  pub twice : 2 ^ bits ≡ 2 * 2 ^ (bits - 1)
  pub half : 2 ^ (bits - 1) ≤ 2 ^ 63
  pub ones : (2 ^ 64 - 1) / 2 ^ (64 - bits) ≡ 2 ^ bits - 1

pub has_halves : (bits : ℕ) → 1 ≤ bits → bits ≤ 64 → HasHalves bits
has_halves bits some most =
    let up : bits ≡ 1 + (bits - 1) = omega arith in
    let back : 64 - (64 - bits) ≡ bits = omega arith in
    let at_most : bits - 1 ≤ 63 = omega arith in record {
      twice = ap (λ (e : ℕ). 2 ^ e) up ∙ pow-add 2 1 (bits - 1);
      half = pow-le-pow_right {n = 2} (omega arith) {i = bits - 1} {j = 63} at_most;
      ones = rw back at (ones_shr 64 (64 - bits) (omega arith));
    }

-- where the highest of the bits is 1
pub not_below : (n k : ℕ) → n / 2 ^ k ≢ 0 → 2 ^ k ≤ n
not_below n k some = elim (cases_lt n (2 ^ k)) [
  | inl below ↦ absurd (some (div-eq_of_lt below))
  | inr above ↦ above
]

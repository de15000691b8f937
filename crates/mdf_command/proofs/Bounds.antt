-- Signed numbers in decimal.
use Rattle.std.proofs.Common.{◌≡◌, ◌<◌, ◌^◌, ℕ, suc, List, ◌∷◌, drop, sym, ◌∙◌, ap, subst, arith}
use Rattle.std.specs.Prelude.{ℤ, pos, negsuc}
use Rattle.std.specs.Fmt.{decimal, signed_decimal}
use Rattle.std.specs.Str.Parse.{AllDigits}
use Rattle.std.proofs.lemmas.Fmt.{decimal_injective, decimal_is_IsNumeral}
use Rattle.std.proofs.lemmas.Str.Parse.{digit_from_value}
use Rattle.script_line.specs.Number.{IsNoNumber, IsNumber}
use Rattle.mdf_command.specs.Words.{IsBound, SaysNoBound}

-- no number without a sign begins with `-`
no_minus : (n : ℕ) (ds : List ℕ) → n < 2 ^ 64 → ¬ (decimal n ≡ 45 ∷ ds)
no_minus n ds fits is = omega (arith, digit_from_value 45 (subst (AllDigits 10) is (decimal_is_IsNumeral n fits).0.1).0)

-- a number is written in one way
pub one_bound : (y z : ℤ) → IsBound y → IsBound z → signed_decimal y ≡ signed_decimal z → y ≡ z
one_bound (pos m) (pos n) first second same = ap pos (decimal_injective m n first second same)
one_bound (pos m) (negsuc n) first second same = absurd (no_minus m _ first same)
one_bound (negsuc m) (pos n) first second same = absurd (no_minus n _ second (sym same))
one_bound (negsuc m) (negsuc n) first second same =
    ap negsuc (omega (arith, decimal_injective (suc m) (suc n) (omega arith) (omega arith) (ap (drop 1) same)))

-- the digits behind a `-` are no number, or say one that is 0 or beyond 2 ^ 63
no_negative : (digits : List ℕ) → ((n : ℕ) → n < 2 ^ 63 → ¬ (digits ≡ decimal (suc n))) → SaysNoBound (45 ∷ digits)
no_negative digits none (pos n) says = no_minus n digits says.1 (sym says.0)
no_negative digits none (negsuc n) says = none n says.1 (ap (drop 1) says.0)

pub not_digits : (digits : List ℕ) → IsNoNumber digits → SaysNoBound (45 ∷ digits)
not_digits digits none = no_negative digits (λ n fits is. none (suc n) (is, omega (arith, fits)))

other_negative : (digits : List ℕ) (number : ℕ) → IsNumber digits number → ((n : ℕ) → n < 2 ^ 63 → ¬ (number ≡ suc n)) → SaysNoBound (45 ∷ digits)
other_negative digits number is other = no_negative digits (λ n fits also.
    other n fits (decimal_injective number (suc n) is.1 (omega (arith, fits)) (sym is.0 ∙ also)))

pub minus_zero : (digits : List ℕ) (number : ℕ) → IsNumber digits number → number < 1 → SaysNoBound (45 ∷ digits)
minus_zero digits number is small = other_negative digits number is (λ n fits same. absurd (omega (arith, small, same)))

pub past_minus : (digits : List ℕ) (number : ℕ) → IsNumber digits number → 2 ^ 63 < number → SaysNoBound (45 ∷ digits)
past_minus digits number is large = other_negative digits number is (λ n fits same. absurd (omega (arith, large, same, fits)))

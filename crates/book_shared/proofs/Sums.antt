-- Sums over lists of which one element changes.
use Rattle.std.proofs.Common.{◌≡◌, ℕ, zero, suc, ◌+◌, ◌≤◌, ◌≢◌, List, [], ◌∷◌, ◌++◌, set, sym, refl, ap, arith}
use mathlib.Core.Option.{some, some-injective, some-ne-none}
use lib.ListN.{get_elem?}
use Rattle.book_shared.specs.Rule.{total}

module _ {A : Type 0} (f : A → ℕ) where
  pub total-append : (l m : List A) → total f (l ++ m) ≡ total f l + total f m
  total-append [] m = omega arith
  total-append (x ∷ xs) m = omega (arith, total-append xs m)

  pub total-set : (l : List A) (j : ℕ) (v w : A) → get_elem? l j ≡ some v → total f (set l j w) + f v ≡ total f l + f w
  total-set [] j v w e = absurd (some-ne-none v (sym e))
  total-set (x ∷ xs) zero v w e = omega (arith, ap f (some-injective x v e))
  total-set (x ∷ xs) (suc j) v w e = omega (arith, total-set xs j v w e)

  pub term_le : (l : List A) (j : ℕ) (v : A) → get_elem? l j ≡ some v → f v ≤ total f l
  term_le [] j v e = absurd (some-ne-none v (sym e))
  term_le (x ∷ xs) zero v e = omega (arith, ap f (some-injective x v e))
  term_le (x ∷ xs) (suc j) v e = omega (arith, term_le xs j v e)

  pub terms_le : (l : List A) (j k : ℕ) (v u : A) → k ≢ j → get_elem? l j ≡ some v → get_elem? l k ≡ some u → f v + f u ≤ total f l
  terms_le [] j k v u n e d = absurd (some-ne-none v (sym e))
  terms_le (x ∷ xs) zero zero v u n e d = absurd (n refl)
  terms_le (x ∷ xs) zero (suc k) v u n e d = omega (arith, ap f (some-injective x v e), term_le xs k u d)
  terms_le (x ∷ xs) (suc j) zero v u n e d = omega (arith, ap f (some-injective x u d), term_le xs j v e)
  terms_le (x ∷ xs) (suc j) (suc k) v u n e d = omega (arith, terms_le xs j k v u (λ h. n (ap suc h)) e d)

-- where f is nowhere more than g
module _ {A : Type 0} (f g : A → ℕ) (less : (x : A) → f x ≤ g x) where
  pub total_less : (l : List A) → total f l ≤ total g l
  total_less [] = omega arith
  total_less (x ∷ xs) = omega (arith, less x, total_less xs)

  pub total_less_at : (l : List A) (j : ℕ) (v : A) → get_elem? l j ≡ some v → total f l + g v ≤ total g l + f v
  total_less_at [] j v e = absurd (some-ne-none v (sym e))
  total_less_at (x ∷ xs) zero v e = omega (arith, ap f (some-injective x v e), ap g (some-injective x v e), total_less xs)
  total_less_at (x ∷ xs) (suc j) v e = omega (arith, less x, total_less_at xs j v e)

-- What holds of the items of two lists at a place.
use Rattle.std.proofs.Common.{◌≡◌, ◌<◌, ℕ, List, length, get_or, sym, subst}
use Rattle.std.proofs.lemmas.List.{get_or_read}

-- what holds of two items holds at their place, and the other way round
module _ {A : Type 0} (P : A → A → Type 0) (xs ys : List A) (k : ℕ) (x y d : A) (below : k < length xs) (within : k < length ys)
    (first : x ≡ get_or xs k x) (second : y ≡ get_or ys k y) where
  pub at_place : P x y → P (get_or xs k d) (get_or ys k d)
  at_place is = subst (λ (v : A). P v (get_or ys k d)) (get_or_read xs k x below first d) (subst (λ (v : A). P x v) (get_or_read ys k y within second d) is)

  pub of_place : P (get_or xs k d) (get_or ys k d) → P x y
  of_place is = subst (λ (v : A). P v y) (sym (get_or_read xs k x below first d))
      (subst (λ (v : A). P (get_or xs k d) v) (sym (get_or_read ys k y within second d)) is)

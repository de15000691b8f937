-- What is left of a list.
use Rattle.std.proofs.Common.{◌≡◌, ◌+◌, ◌<◌, ℕ, List, ◌∷◌, length, get_or, drop, sym, ◌∙◌, ap, drop-cons, suc, add-one}

-- the rest of a list behind the item at a place
pub rest_is : {A : Type 0} (xs : List A) (k : ℕ) (x : A) → k < length xs → x ≡ get_or xs k x → drop k xs ≡ x ∷ drop (k + 1) xs
rest_is {A} xs k x below is = rw add-one (drop-cons xs k x below ∙ ap (λ (y : A). y ∷ drop (suc k) xs) (sym is))

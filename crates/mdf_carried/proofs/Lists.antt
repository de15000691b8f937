-- Lists by their elements.
use Rattle.std.proofs.Common.{◌≡◌, ◌+◌, ◌*◌, ◌<◌, ℕ, zero, suc, Bool, true, false, List, [], ◌∷◌, ◌++◌, length, get_or, take, map, refl, ◌∙◌, ap, subst, arith, length-append}
use Rattle.std.proofs.lemmas.List.{take_at}
use Rattle.std.proofs.Math.Seq.{drop-append-add}
use Rattle.std.specs.Prelude.{◌&&◌, All, slice_get, Some}
use Rattle.std.specs.List.{AllByRecursion, AllZip, enumerate_from}
use Rattle.mdf_format.specs.Number.{bytes_at}
use Rattle.mdf_data.specs.Bodies.{joined}

-- what holds at each place holds along the list
pub all_along : {A : Type 0} (P : A → Type 0) (xs : List A) → All P xs → AllByRecursion P xs
all_along P [] each = tt
all_along P (x ∷ xs) each = (each 0 x (omega arith), all_along P xs (λ k d below. each (suc k) d (omega (arith, below))))

pub both_false : (b : Bool) → (b && false) ≡ false
both_false true = refl
both_false false = refl

pub from_here : (k : ℕ) → k + 0 ≡ k
from_here k = omega arith

pub one_on : (k j : ℕ) → k + suc j ≡ k + 1 + j
one_on k j = omega arith

-- two lists whose elements fit, place by place
pub zip_along : {A B : Type 0} (R : ℕ × A → B → Type 0) (k : ℕ) (xs : List A) (ys : List B) → length xs ≡ length ys
    → ((j : ℕ) (x : A) (y : B) → slice_get xs j ≡ Some x → slice_get ys j ≡ Some y → R (k + j, x) y) → AllZip R (enumerate_from k xs) ys
zip_along R k [] [] long each = tt
zip_along R k [] (y ∷ ys) long each = absurd (omega (arith, long))
zip_along R k (x ∷ xs) [] long each = absurd (omega (arith, long))
zip_along R k (x ∷ xs) (y ∷ ys) long each = (
  subst (λ (n : ℕ). R (n, x) y) (from_here k) (each 0 x y refl refl),
  zip_along R (k + 1) xs ys (omega (arith, long)) (λ j a b is_a is_b. subst (λ (n : ℕ). R (n, a) b) (one_on k j) (each (suc j) a b is_a is_b)),
)

-- what holds of each element with its number, where the elements are made of others
pub numbered_along : {A B : Type 0} (P : ℕ × B → Type 0) (f : A → B) (k : ℕ) (xs : List A)
    → ((j : ℕ) (x : A) → slice_get xs j ≡ Some x → P (k + j, f x)) → AllByRecursion P (enumerate_from k (map f xs))
numbered_along P f k [] each = tt
numbered_along P f k (x ∷ xs) each = (
  subst (λ (n : ℕ). P (n, f x)) (from_here k) (each 0 x refl),
  numbered_along P f (k + 1) xs (λ j a is. subst (λ (n : ℕ). P (n, f a)) (one_on k j) (each (suc j) a is)),
)

-- two facts on two lists
pub zip_both : {A B : Type 0} (P Q R : A → B → Type 0) → ((x : A) (y : B) → P x y → Q x y → R x y) → (xs : List A) (ys : List B)
    → AllZip P xs ys → AllZip Q xs ys → AllZip R xs ys
zip_both P Q R both [] [] ps qs = tt
zip_both P Q R both [] (y ∷ ys) ps qs = absurd ps
zip_both P Q R both (x ∷ xs) [] ps qs = absurd ps
zip_both P Q R both (x ∷ xs) (y ∷ ys) ps qs = (both x y ps.0 qs.0, zip_both P Q R both xs ys ps.1 qs.1)

-- lists of one length, one behind the other
pub length-joined : (size : ℕ) (xs : List (List ℕ)) → AllByRecursion (λ (x : List ℕ). length x ≡ size) xs → length (joined xs) ≡ length xs * size
length-joined size [] each = omega arith
length-joined size (x ∷ xs) each =
    let rest = length-joined size xs each.1 in
    let all : length (x ++ joined xs) ≡ length x + length (joined xs) = length-append x (joined xs) in
    let more : size + length xs * size ≡ suc (length xs) * size = grind arith in
    all ∙ omega (arith, rest, each.0) ∙ more

-- the list at a place of them
pub joined_at : (size i : ℕ) (xs : List (List ℕ)) → AllByRecursion (λ (x : List ℕ). length x ≡ size) xs → i < length xs
    → bytes_at size (joined xs) (i * size) ≡ get_or xs i []
joined_at size i [] each below = absurd (omega (arith, below))
joined_at size zero (x ∷ xs) each below =
    let none : zero * size ≡ 0 = omega arith in
    ap (λ (n : ℕ). bytes_at size (x ++ joined xs) n) none ∙ take_at x (joined xs) size each.0
joined_at size (suc i) (x ∷ xs) each below =
    let more : suc i * size ≡ length x + i * size = let far : suc i * size ≡ size + i * size = grind arith in omega (arith, far, each.0) in
    ap (λ (n : ℕ). bytes_at size (x ++ joined xs) n) more
    ∙ ap (take size) (drop-append-add x (joined xs) (i * size))
    ∙ joined_at size i xs each.1 (omega (arith, below))

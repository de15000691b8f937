-- The items of a list by their places.
use Rattle.std.proofs.Common.{◌<◌, ℕ, zero, suc, List, [], ◌∷◌, length, get_or, arith, ◌≡◌, Option, Some, None, subst, inl, inr, refl, ap, map, ◌∙◌, take}
use Rattle.std.specs.List.{AllByRecursion, AllZip}
use Rattle.std.specs.Prelude.{Bool, cond, slice_get, true, filter, min}
use Rattle.std.proofs.lemmas.Bool.{cond-true, cond-false}
use Rattle.mdf_block.proofs.Cases.{some_injective, two_ways}

-- the item of a list with a property of all
pub one_of : {A : Type 0} (P : A → Type 0) (xs : List A) (k : ℕ) (d : A) → AllByRecursion P xs → k < length xs → P (get_or xs k d)
one_of P [] k d all below = absurd (omega (arith, below))
one_of P (x ∷ xs) zero d all below = all.0
one_of P (x ∷ xs) (suc k) d all below = one_of P xs k d all.1 (omega (arith, below))

-- an item of a list that has one
pub item_of : {A : Type 0} (xs : List A) (k : ℕ) → k < length xs → A
item_of [] k below = absurd (omega (arith, below))
item_of (x ∷ xs) k below = x

-- an item of a list, by its number
pub all_get : {A : Type 0} (P : A → Type 0) (xs : List A) (i : ℕ) (x : A) → slice_get xs i ≡ Some x → AllByRecursion P xs → P x
all_get {A} P [] i x is all = let wrong : ◌≡◌ {A = Option A} None (Some x) = is in cc
all_get P (y ∷ xs) zero x is all = subst P (some_injective y x is) all.0
all_get P (y ∷ xs) (suc i) x is all = all_get P xs i x is all.1

-- what stands to an item of a list
pub zip_get : {A B : Type 0} (R : A → B → Type 0) (xs : List A) (ys : List B) (n : ℕ) (x : A) → slice_get xs n ≡ Some x → AllZip R xs ys → (y : B) × R x y
zip_get {A} R [] ys n x is all = let wrong : ◌≡◌ {A = Option A} None (Some x) = is in cc
zip_get R (z ∷ xs) [] n x is all = absurd all
zip_get {A} {B} R (z ∷ xs) (y ∷ ys) zero x is all = (y, subst (λ (a : A). R a y) (some_injective z x is) all.0)
zip_get R (z ∷ xs) (y ∷ ys) (suc n) x is all = zip_get R xs ys n x is all.1

pub first_get : {A B : Type 0} (R : A → B → Type 0) (x : A) (xs : List A) (ys : List B) → AllZip R (x ∷ xs) ys → (y : B) × R x y
first_get R x xs [] all = absurd all
first_get R x xs (y ∷ ys) all = (y, all.0)

behind_get : {A B : Type 0} (R : A → B → Type 0) (x : A) (xs : List A) (ys : List B) → AllZip R (x ∷ xs) ys → (zs : List B) × AllZip R xs zs
behind_get R x xs [] all = absurd all
behind_get R x xs (y ∷ ys) all = (ys, all.1)

pub rest_get : {A B : Type 0} (test : A → Bool) (R : A → B → Type 0) (x : A) (xs : List A) (ys : List B)
    → AllZip R (cond (test x) (x ∷ xs) xs) ys → (zs : List B) × AllZip R xs zs
rest_get {A} {B} test R x xs ys all =
    elim (two_ways (test x)) [
      | inl passes ↦ behind_get R x xs ys (subst (λ (cs : List A). AllZip R cs ys) (cond-true (test x) (x ∷ xs) xs passes) all)
      | inr fails ↦ (ys, subst (λ (cs : List A). AllZip R cs ys) (cond-false (test x) (x ∷ xs) xs fails) all)
    ]

-- a test that each passes
pub all_pass : {A : Type 0} (xs : List A) → filter (λ x. true) xs ≡ xs
all_pass [] = refl
all_pass (x ∷ xs) = ap (λ ys. x ∷ ys) (all_pass xs)

-- what stands to the items of a list one by one has a property
pub zipped : {A B : Type 0} (P : A → B → Type 0) (Q : B → Type 0) → ((x : A) (y : B) → P x y → Q y) → (xs : List A) (ys : List B) → AllZip P xs ys
    → AllByRecursion Q ys
zipped P Q each [] [] all = tt
zipped P Q each [] (y ∷ ys) all = absurd all
zipped P Q each (x ∷ xs) [] all = absurd all
zipped P Q each (x ∷ xs) (y ∷ ys) all = (each x y all.0, zipped P Q each xs ys all.1)

-- what holds of the items that are turned
pub zip_turned : {A B C : Type 0} (R : A → C → Type 0) (turn : B → C) (xs : List A) (ys : List B) → AllZip (λ x y. R x (turn y)) xs ys
    → AllZip R xs (map turn ys)
zip_turned R turn [] [] all = tt
zip_turned R turn [] (y ∷ ys) all = absurd all
zip_turned R turn (x ∷ xs) [] all = absurd all
zip_turned R turn (x ∷ xs) (y ∷ ys) all = (all.0, zip_turned R turn xs ys all.1)

-- a list that stands item by item to another one is the only one
pub zip_unique : {A B : Type 0} (R : A → B → Type 0) → ((x : A) (y z : B) → R x y → R x z → y ≡ z)
    → (xs : List A) (ys zs : List B) → AllZip R xs ys → AllZip R xs zs → ys ≡ zs
zip_unique R one [] [] [] is_y is_z = refl
zip_unique R one [] [] (z ∷ zs) is_y is_z = absurd is_z
zip_unique R one [] (y ∷ ys) zs is_y is_z = absurd is_y
zip_unique R one (x ∷ xs) [] zs is_y is_z = absurd is_y
zip_unique R one (x ∷ xs) (y ∷ ys) [] is_y is_z = absurd is_z
zip_unique {A} {B} R one (x ∷ xs) (y ∷ ys) (z ∷ zs) is_y is_z =
    ap (λ (w : B). w ∷ ys) (one x y z is_y.0 is_z.0) ∙ ap (λ (ws : List B). z ∷ ws) (zip_unique R one xs ys zs is_y.1 is_z.1)

-- what holds of each of the first places
pub all_taken : (P : List ℕ → Type 0) (f : ℕ → List ℕ) (count : ℕ) (places : List ℕ)
    → ((j : ℕ) → j < min count (length places) → P (f (get_or places j 0))) → AllByRecursion P (take count (map f places))
all_taken P f zero places each = tt
all_taken P f (suc count) [] each = tt
all_taken P f (suc count) (place ∷ places) each = (
  each zero (omega arith),
  all_taken P f count places (λ j below. each (suc j) (omega (arith, below))),
)

-- one of the first items that were turned
pub record_at : (f : ℕ → List ℕ) (count : ℕ) (places : List ℕ) (i : ℕ) → i < min count (length places)
    → slice_get (take count (map f places)) i ≡ Some (f (get_or places i 0))
record_at f zero places i below = absurd (omega (arith, below))
record_at f (suc count) [] i below = absurd (omega (arith, below))
record_at f (suc count) (place ∷ places) zero below = refl
record_at f (suc count) (place ∷ places) (suc i) below = record_at f count places i (omega (arith, below))

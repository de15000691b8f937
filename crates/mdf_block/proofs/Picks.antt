-- What is read for the items of a list, item by item.
use Rattle.std.proofs.Common.{◌≡◌, ◌+◌, ℕ, zero, suc, List, [], ◌∷◌, ◌++◌, Ok, refl, sym, ap, subst, arith, ◌∙◌, inl, inr}
use Rattle.std.specs.Prelude.{Bool, true, false, filter, slice_get, Option, Some, None}
use Rattle.std.specs.List.{AllByRecursion, AllZip, enumerate_from}
use Rattle.std.proofs.lemmas.Bool.{cond-true, cond-false}
use Rattle.mdf_block.specs.Refusal.{Read, ◌>>=◌}
use Rattle.mdf_block.proofs.Refusals.{bind_ok}
use Rattle.std.specs.Option.{option_to_list}
use Rattle.mdf_block.specs.Every.{every}
use Rattle.mdf_block.proofs.Cases.{ok_injective, some_injective, two_ways}
use Rattle.mdf_block.proofs.Items.{first_get, rest_get}

-- of each item nothing or one thing was read
abbrev pub AreRead : {A B : Type 0} → (ℕ → A → Option B → Type 0) → ℕ → List A → List B → Type 0
AreRead R k [] ys = ys ≡ []
AreRead {A} {B} R k (x ∷ xs) ys = (y : Option B) × (rest : List B) × (ys ≡ option_to_list y ++ rest) × R k x y × AreRead R (k + 1) xs rest

pub all_read : {A B S : Type 0} (item : ℕ → A → S → Read (Option B × S)) (R : ℕ → A → Option B → Type 0)
    → ((k : ℕ) (x : A) (left : S) (found : Option B × S) → item k x left ≡ Ok found → R k x found.0)
    → (k : ℕ) (xs : List A) (left : S) (found : List B × S) → every item k xs left ≡ Ok found → AreRead R k xs found.0
unfolding every
all_read {A} {B} {S} item R one k [] left found is = ap (λ (y : List B × S). y.0) (sym (ok_injective ([], left) found is))
all_read {A} {B} {S} item R one k (x ∷ xs) left found is =
    let first = bind_ok (item k x left) (λ found. every item (k + 1) xs found.1 >>= λ rest. Ok (option_to_list found.0 ++ rest.0, rest.1)) found is in
    let second = bind_ok (every item (k + 1) xs first.0.1) (λ rest. Ok (option_to_list first.0.0 ++ rest.0, rest.1)) found first.2 in (
      first.0.0,
      second.0.0,
      ap (λ (y : List B × S). y.0) (sym (ok_injective (option_to_list first.0.0 ++ second.0.0, second.0.1) found second.2)),
      one k x left first.0 first.1,
      all_read item R one (k + 1) xs first.0.1 second.0 second.1,
    )

-- what holds of each item with its number
abbrev pub AreNumbered : {A : Type 0} → (ℕ → A → Type 0) → ℕ → List A → Type 0
AreNumbered P k xs = AllByRecursion (λ n. P n.0 n.1) (enumerate_from k xs)

pub numbered_both : {A : Type 0} (P Q R : ℕ → A → Type 0) → ((n : ℕ) (x : A) → P n x → Q n x → R n x)
    → (k : ℕ) (xs : List A) → AreNumbered P k xs → AreNumbered Q k xs → AreNumbered R k xs
numbered_both P Q R turn k [] all each = tt
numbered_both P Q R turn k (x ∷ xs) all each = (turn k x all.0 each.0, numbered_both P Q R turn (k + 1) xs all.1 each.1)

-- what holds of an item by its number
pub numbered : {A : Type 0} (P : ℕ → A → Type 0) (k : ℕ) (xs : List A) → ((j : ℕ) (x : A) → slice_get xs j ≡ Some x → P (k + j) x)
    → AreNumbered P k xs
numbered P k [] each = tt
numbered P k (x ∷ xs) each =
    let here : k + zero ≡ k = omega arith in (
      subst (λ (n : ℕ). P n x) here (each zero x refl),
      numbered P (k + 1) xs (λ j other is.
          let next : k + suc j ≡ k + 1 + j = omega arith in subst (λ (n : ℕ). P n other) next (each (suc j) other is)),
    )

from_zero : (j : ℕ) → j ≡ 0 + j
from_zero j = omega arith

pub all_there : {A : Type 0} (xs : List A) → AreNumbered (λ n x. slice_get xs n ≡ Some x) 0 xs
all_there {A} xs =
    numbered (λ n x. slice_get xs n ≡ Some x) 0 xs
    (λ j x is. subst (λ (n : ℕ). ◌≡◌ {A = Option A} (slice_get xs n) (Some x)) (from_zero j) is)

-- what was read besides what holds of the items
pub read_with : {A B : Type 0} (P : ℕ → A → Type 0) (R Q : ℕ → A → Option B → Type 0)
    → ((k : ℕ) (x : A) (y : Option B) → P k x → R k x y → Q k x y)
    → (k : ℕ) (xs : List A) (ys : List B) → AreNumbered P k xs → AreRead R k xs ys → AreRead Q k xs ys
read_with P R Q turn k [] ys each read = read
read_with P R Q turn k (x ∷ xs) ys each read =
    (read.0, read.1, read.2, turn k x read.0 each.0 read.3, read_with P R Q turn (k + 1) xs read.1 each.1 read.4)

-- the items by a key
abbrev pub keyed : {A C : Type 0} → (ℕ → A → C) → ℕ → List A → List C
keyed key k [] = []
keyed key k (x ∷ xs) = key k x ∷ keyed key (k + 1) xs

pub keyed_own : {A : Type 0} (k : ℕ) (xs : List A) → keyed (λ n x. x) k xs ≡ xs
keyed_own k [] = refl
keyed_own k (x ∷ xs) = ap (λ ys. x ∷ ys) (keyed_own (k + 1) xs)

pub keyed_numbered : {A : Type 0} (k : ℕ) (xs : List A) → keyed {A = A} {C = ℕ × A} (λ n x. (n, x)) k xs ≡ enumerate_from k xs
keyed_numbered k [] = refl
keyed_numbered {A} k (x ∷ xs) = ap (λ (ys : List (ℕ × A)). (k, x) ∷ ys) (keyed_numbered (k + 1) xs)

-- one thing is read of an item exactly where it passes a test
abbrev pub IsPicked : {B C : Type 0} → (C → Bool) → (C → B → Type 0) → C → Option B → Type 0
IsPicked test Is x None = test x ≡ false
IsPicked test Is x (Some y) = (test x ≡ true) × Is x y

pub picked : {A B C : Type 0} (key : ℕ → A → C) (test : C → Bool) (Is : C → B → Type 0) (k : ℕ) (xs : List A) (ys : List B)
    → AreRead (λ k x y. IsPicked test Is (key k x) y) k xs ys → AllZip Is (filter test (keyed key k xs)) ys
picked {A} {B} {C} key test Is k [] ys read = subst (AllZip Is []) (sym read) tt
picked {A} {B} {C} key test Is k (x ∷ xs) ys (None, rest, are, is, others) =
    subst (λ (zs : List B). AllZip Is (filter test (key k x ∷ keyed key (k + 1) xs)) zs) (sym are)
    (subst (λ (cs : List C). AllZip Is cs rest)
    (sym (cond-false (test (key k x)) (key k x ∷ filter test (keyed key (k + 1) xs)) (filter test (keyed key (k + 1) xs)) is))
    (picked key test Is (k + 1) xs rest others))
picked {A} {B} {C} key test Is k (x ∷ xs) ys (Some y, rest, are, is, others) =
    subst (λ (zs : List B). AllZip Is (filter test (key k x ∷ keyed key (k + 1) xs)) zs) (sym are)
    (subst (λ (cs : List C). AllZip Is cs (y ∷ rest))
    (sym (cond-true (test (key k x)) (key k x ∷ filter test (keyed key (k + 1) xs)) (filter test (keyed key (k + 1) xs)) is.0))
    (is.1, picked key test Is (k + 1) xs rest others))

next_on : (k j : ℕ) → k + 1 + j ≡ k + suc j
next_on k j = omega arith

none_on : (k : ℕ) → k ≡ k + 0
none_on k = omega arith

pub numbered_get : {A : Type 0} (P : ℕ → A → Type 0) (k : ℕ) (xs : List A) (j : ℕ) (x : A) → slice_get xs j ≡ Some x → AreNumbered P k xs → P (k + j) x
numbered_get {A} P k [] j x is all = let wrong : ◌≡◌ {A = Option A} None (Some x) = is in cc
numbered_get P k (y ∷ xs) zero x is all = subst (λ (n : ℕ). P n x) (none_on k) (subst (P k) (some_injective y x is) all.0)
numbered_get P k (y ∷ xs) (suc j) x is all = subst (λ (n : ℕ). P n x) (next_on k j) (numbered_get P (k + 1) xs j x is all.1)

-- and to an item that passes a test
pub picked_get : {A B C : Type 0} (key : ℕ → A → C) (test : C → Bool) (R : C → B → Type 0) (k : ℕ) (xs : List A) (ys : List B) (j : ℕ) (x : A)
    → slice_get xs j ≡ Some x → test (key (k + j) x) ≡ true → AllZip R (filter test (keyed key k xs)) ys → (y : B) × R (key (k + j) x) y
picked_get {A} key test R k [] ys j x is passes all = let wrong : ◌≡◌ {A = Option A} None (Some x) = is in cc
picked_get {A} {B} {C} key test R k (z ∷ xs) ys zero x is passes all =
    let others = filter test (keyed key (k + 1) xs) in
    let item : key k z ≡ key (k + 0) x = ap (key k) (some_injective z x is) ∙ ap (λ (n : ℕ). key n x) (none_on k) in
    let here : test (key k z) ≡ true = ap test item ∙ passes in
    let first : AllZip R (key k z ∷ others) ys =
    subst (λ (cs : List C). AllZip R cs ys) (cond-true (test (key k z)) (key k z ∷ others) others here) all in
    subst (λ (c : C). (y : B) × R c y) item (first_get R (key k z) others ys first)
picked_get {A} {B} {C} key test R k (z ∷ xs) ys (suc j) x is passes all =
    let others = filter test (keyed key (k + 1) xs) in
    let behind = rest_get test R (key k z) others ys all in
    subst (λ (n : ℕ). (y : B) × R (key n x) y) (next_on k j)
    (picked_get key test R (k + 1) xs behind.0 j x is (subst (λ (n : ℕ). test (key n x) ≡ true) (sym (next_on k j)) passes) behind.1)

-- an item that passes a test
pub passed_get : {A : Type 0} (test : A → Bool) (P : A → Type 0) (xs : List A) (i : ℕ) (x : A) → slice_get xs i ≡ Some x → test x ≡ true
    → AllByRecursion P (filter test xs) → P x
passed_get {A} test P [] i x is passes all = let wrong : ◌≡◌ {A = Option A} None (Some x) = is in cc
passed_get {A} test P (y ∷ xs) zero x is passes all =
    let same : y ≡ x = some_injective y x is in
    let here : test y ≡ true = ap test same ∙ passes in
    let first = subst (AllByRecursion P) (cond-true (test y) (y ∷ filter test xs) (filter test xs) here) all in subst P same first.0
passed_get {A} test P (y ∷ xs) (suc i) x is passes all =
    elim (two_ways (test y)) [
      | inl holds ↦
          let first = subst (AllByRecursion P) (cond-true (test y) (y ∷ filter test xs) (filter test xs) holds) all in
          passed_get test P xs i x is passes first.1
      | inr fails ↦
          passed_get test P xs i x is passes (subst (AllByRecursion P) (cond-false (test y) (y ∷ filter test xs) (filter test xs) fails) all)
    ]

-- Lists that grow at their end.
use Rattle.std.proofs.Common.{◌≡◌, ◌+◌, ◌^◌, ◌<◌, ◌≤◌, ℕ, suc, List, [], ◌∷◌, ◌++◌, length, drop, slice_index_or, Fits, w8, w64, sym, ◌∙◌, ap, append_assoc, append-nil, drop-cons, add-one}
use Rattle.std.proofs.Math.Facts.{Fits-lt-pow}
use Rattle.std.proofs.lemmas.List.{drop_all}
use Rattle.std.specs.List.{AllByRecursion}
use Rattle.mdf_spell.specs.Standing.{AreBytes}

-- an item was added, and a rest follows
pub pushed_on : {A : Type 0} (front after : List A) (x : A) (rest : List A) → after ≡ front ++ x ∷ [] → after ++ rest ≡ front ++ x ∷ rest
pushed_on {A} front after x rest pushed = ap (λ (xs : List A). xs ++ rest) pushed ∙ append_assoc front (x ∷ []) rest

-- nothing is left to follow
pub none_follows : {A B : Type 0} (all : List B) (rest : List A → List B) (xs : List A) (k : ℕ) → rest [] ≡ [] → length xs ≤ k
    → all ≡ all ++ rest (drop k xs)
none_follows {A} {B} all rest xs k none past =
    sym (ap (λ (left : List A). all ++ rest left) (drop_all k xs past) ∙ ap (λ (left : List B). all ++ left) none ∙ append-nil all)

-- an item, whatever stands for one past the end, and those behind it
pub cut_at : {A : Type 0} (xs : List A) (k : ℕ) (d : A) → k < length xs → drop k xs ≡ slice_index_or xs k d ∷ drop (k + 1) xs
cut_at {A} xs k d below = rw add-one (drop-cons xs k d below)

-- numbers of 8 bytes
pub all_fit : (xs : List ℕ) → ((i : ℕ) → Fits w64 (slice_index_or xs i 0)) → AllByRecursion (λ n. n < 2 ^ 64) xs
all_fit [] fit = tt
all_fit (x ∷ xs) fit = (Fits-lt-pow (fit 0), all_fit xs (λ i. fit (suc i)))

-- bytes
pub all_bytes : (xs : List ℕ) → ((i : ℕ) → Fits w8 (slice_index_or xs i 0)) → AreBytes xs
all_bytes [] fit = tt
all_bytes (x ∷ xs) fit = (Fits-lt-pow (fit 0), all_bytes xs (λ i. fit (suc i)))

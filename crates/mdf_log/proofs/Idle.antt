-- Lists that are all empty.
use Rattle.std.proofs.Common.{◌≡◌, ◌↔◌, Bool, true, false, ℕ, zero, suc, List, [], ◌∷◌, length, replicate, refl, ap, ◌∙◌}
use Rattle.std.specs.Prelude.{IsTrue}
use Rattle.std.specs.List.{list_all}
use Rattle.std.proofs.lemmas.Bool.{false≢true}

abbrev pub is_nil : {A : Type 0} → List A → Bool
is_nil [] = true
is_nil (x ∷ xs) = false

pub nil_test : {A : Type 0} (b : Bool) (xs : List A) → (IsTrue b ↔ (xs ≡ [])) → b ≡ is_nil xs
nil_test true [] test = refl
nil_test false [] test = test.1 refl
nil_test true (x ∷ xs) test = let none = test.0 refl in cc
nil_test false (x ∷ xs) test = refl

pub all_nil : {A : Type 0} (lists : List (List A)) → list_all is_nil lists ≡ true → lists ≡ replicate (length lists) []
all_nil [] all = refl
all_nil ([] ∷ lists) all = ap (λ rest. [] ∷ rest) (all_nil lists all)
all_nil ((x ∷ xs) ∷ lists) all = absurd (false≢true all)

none_some : (A : Type 0) (n : ℕ) → list_all (is_nil {A = A}) (replicate n []) ≡ true
none_some A zero = refl
none_some A (suc n) = none_some A n

pub nil_all : {A : Type 0} (lists : List (List A)) → lists ≡ replicate (length lists) [] → list_all is_nil lists ≡ true
nil_all {A} lists none = ap (list_all is_nil) none ∙ none_some A (length lists)

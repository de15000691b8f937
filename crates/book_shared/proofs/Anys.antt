-- One of a list, of which one element changes.
use Rattle.std.proofs.Common.{◌≡◌, ℕ, zero, suc, ◌≢◌, List, [], ◌∷◌, ◌++◌, ◌<◌, ◌∙◌, length, set, sym, refl, subst, inl, inr, ◌⊎◌, ⊎_elim, arith}
use mathlib.Core.Option.{some, some-injective, some-ne-none}
use lib.ListN.{get_elem?}
use Rattle.atomic_table.proofs.Lists.{set_else}
use Rattle.book_shared.specs.Causes.{AnyOf, IsAmong}

-- what is put in a list in place of what stands there
pub at_here : {A : Type 0} (l : List A) (j : ℕ) (v u : A) → get_elem? l j ≡ some v → get_elem? (set l j u) j ≡ some u
at_here [] j v u at = absurd (some-ne-none v (sym at))
at_here (x ∷ xs) zero v u at = refl
at_here (x ∷ xs) (suc j) v u at = at_here xs j v u at

module _ {A : Type 0} (holds : A → Type 0) where
  pub any_first : (xs ys : List A) → AnyOf holds xs → AnyOf holds (xs ++ ys)
  any_first [] ys is = absurd is
  any_first (x ∷ xs) ys is = ⊎_elim (λ here. inl here) (λ there. inr (any_first xs ys there)) is

  pub any_last : (xs ys : List A) → AnyOf holds ys → AnyOf holds (xs ++ ys)
  any_last [] ys is = is
  any_last (x ∷ xs) ys is = inr (any_last xs ys is)

  pub any_parts : (xs ys : List A) → AnyOf holds (xs ++ ys) → AnyOf holds xs ⊎ AnyOf holds ys
  any_parts [] ys is = inr is
  any_parts (x ∷ xs) ys is = ⊎_elim (λ here. inl (inl here)) (λ there. ⊎_elim (λ first. inl (inr first)) (λ last. inr last) (any_parts xs ys there)) is

  -- the one at this place stays one
  pub any_set : (l : List A) (j : ℕ) (v u : A) → get_elem? l j ≡ some v → (holds v → holds u) → AnyOf holds l → AnyOf holds (set l j u)
  any_set [] j v u at on is = absurd is
  any_set (x ∷ xs) zero v u at on is = ⊎_elim (λ here. inl (on (subst holds (some-injective x v at) here))) (λ there. inr there) is
  any_set (x ∷ xs) (suc j) v u at on is = ⊎_elim (λ here. inl here) (λ there. inr (any_set xs j v u at on there)) is

  pub any_here : (l : List A) (j : ℕ) (v u : A) → get_elem? l j ≡ some v → holds u → AnyOf holds (set l j u)
  any_here [] j v u at is = absurd (some-ne-none v (sym at))
  any_here (x ∷ xs) zero v u at is = inl is
  any_here (x ∷ xs) (suc j) v u at is = inr (any_here xs j v u at is)

  -- it is the one at this place, or one of those that stay
  pub any_without : (l : List A) (j : ℕ) (v u : A) → get_elem? l j ≡ some v → AnyOf holds l → holds v ⊎ AnyOf holds (set l j u)
  any_without [] j v u at is = absurd is
  any_without (x ∷ xs) zero v u at is = ⊎_elim (λ here. inl (subst holds (some-injective x v at) here)) (λ there. inr (inr there)) is
  any_without (x ∷ xs) (suc j) v u at is =
      ⊎_elim (λ here. inr (inl here)) (λ there. ⊎_elim (λ it. inl it) (λ else_where. inr (inr else_where)) (any_without xs j v u at there)) is

  any_at : (l : List A) (j : ℕ) (v : A) → get_elem? l j ≡ some v → holds v → AnyOf holds l
  any_at [] j v at is = absurd (some-ne-none v (sym at))
  any_at (x ∷ xs) zero v at is = inl (subst holds (sym (some-injective x v at)) is)
  any_at (x ∷ xs) (suc j) v at is = inr (any_at xs j v at is)

  -- one of two at places apart goes to the first, and the second is another then
  pub any_joined : (l : List A) (j k : ℕ) (v x u w : A) → k ≢ j → get_elem? l j ≡ some v → get_elem? l k ≡ some x → (holds v → holds u) → (holds x → holds u)
      → AnyOf holds l → AnyOf holds (set (set l j u) k w)
  any_joined l j k v x u w apart at_j at_k first second is = ⊎_elim
      (λ it. any_at (set (set l j u) k w) j u (set_else (set l j u) k j w (λ same. apart (sym same)) ∙ at_here l j v u at_j) (second it))
      (λ stays. stays)
      (any_without (set l j u) k x w (set_else l j k u apart ∙ at_k) (any_set l j v u at_j first is))

  -- none is where none at any place is
  no_more : (l : List A) → ((k : ℕ) (x : A) → get_elem? l k ≡ some x → holds x → ⊥) → AnyOf holds l → ⊥
  no_more [] none is = is
  no_more (x ∷ xs) none is = ⊎_elim (λ here. none 0 x refl here) (λ there. no_more xs (λ k y at. none (suc k) y at) there) is

  -- where no other is, it is that one
  pub any_only : (l : List A) (j : ℕ) (v : A) → get_elem? l j ≡ some v → ((k : ℕ) (x : A) → k ≢ j → get_elem? l k ≡ some x → holds x → ⊥) → AnyOf holds l → holds v
  any_only [] j v at none is = absurd is
  any_only (x ∷ xs) zero v at none is =
      ⊎_elim (λ here. subst holds (some-injective x v at) here) (λ there. absurd (no_more xs (λ k y at_k. none (suc k) y (λ h. absurd (omega (arith, h))) at_k) there)) is
  any_only (x ∷ xs) (suc j) v at none is = ⊎_elim
      (λ here. absurd (none 0 x (λ h. absurd (omega (arith, h))) refl here))
      (λ there. any_only xs j v at (λ k y apart at_k. none (suc k) y (λ h. apart (omega (arith, h))) at_k) there) is

-- a list is not empty among which one stands
pub some_among : {A : Type 0} (xs : List A) (y : A) → IsAmong xs y → 0 < length xs
some_among [] y is = absurd is
some_among (x ∷ xs) y is = omega arith

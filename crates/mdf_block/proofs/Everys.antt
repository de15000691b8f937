-- The loop over a list: what is read so far, with what the rest gives.
use Rattle.std.proofs.Common.{◌≡◌, ◌+◌, ◌<◌, ◌≤◌, ℕ, List, [], ◌∷◌, ◌++◌, length, get_or, drop, Option, Some, None, Ok, Err, refl, sym, ◌∙◌, ap, subst, append-nil, append_assoc}
use Rattle.std.proofs.lemmas.List.{drop_all}
use Rattle.std.specs.Option.{option_to_list}
use Rattle.std.specs.Prelude.{IfSome}
use Rattle.std.specs.List.{AllByRecursion}
use Rattle.mdf_num.specs.declared.halt.Halt.{Halt}
use Rattle.mdf_block.specs.Refusal.{Refusal, Read, ◌>>=◌, Halts}
use Rattle.mdf_block.proofs.Refusals.{halts_then}
use Rattle.mdf_block.proofs.Eachs.{with_front, with_none}
use Rattle.mdf_block.proofs.Rests.{rest_is}
use Rattle.mdf_block.specs.Every.{every}

front_joins : {A S : Type 0} (all ys : List A) (read : Read (List A × S))
    → with_front all (read >>= λ rest. Ok (ys ++ rest.0, rest.1)) ≡ with_front (all ++ ys) read
front_joins {A} all ys (Ok rest) = ap (λ (xs : List A). Ok (xs, rest.1)) (sym (append_assoc all ys rest.0))
front_joins all ys (Err refusal) = refl

module _ {A B S : Type 0} (item : ℕ → A → S → Read (Option B × S)) (xs : List A) where
  -- the loop begins
  pub begins : (left : S) → with_front [] (every item 0 (drop 0 xs) left) ≡ every item 0 xs left
  begins left = with_none (every item 0 xs left)

  -- all are read
  pub is_done : (all : List B) (k : ℕ) (left : S) → length xs ≤ k → with_front all (every item k (drop k xs) left) ≡ Ok (all, left)
  unfolding every
  is_done all k left past =
      ap (λ (rest : List A). with_front all (every item k rest left)) (drop_all k xs past)
      ∙ ap (λ (found : List B). Ok (found, left)) (append-nil all)

  -- one more was looked at
  pub goes_on : (all : List B) (k : ℕ) (left : S) (x : A) (y : Option B) (rest : S) → k < length xs → x ≡ get_or xs k x → item k x left ≡ Ok (y, rest)
      → with_front all (every item k (drop k xs) left) ≡ with_front (all ++ option_to_list y) (every item (k + 1) (drop (k + 1) xs) rest)
  unfolding every
  goes_on all k left x y rest below is found =
      ap (λ (more : List A). with_front all (every item k more left)) (rest_is xs k x below is)
      ∙ ap (λ (read : Read (Option B × S)). with_front all
      (read >>= λ found. every item (k + 1) (drop (k + 1) xs) found.1 >>= λ rest. Ok (option_to_list found.0 ++ rest.0, rest.1))) found
      ∙ front_joins all (option_to_list y) (every item (k + 1) (drop (k + 1) xs) rest)

  -- the next one is refused
  pub ends : {E : Type 0} (refusal : E → Option Refusal) (halt : Halt E) (all : List B) (k : ℕ) (left : S) (x : A) → k < length xs
      → x ≡ get_or xs k x → Halts refusal halt (item k x left) → (whole : Read (List B × S))
      → with_front all (every item k (drop k xs) left) ≡ whole → Halts refusal halt whole
  unfolding every
  ends refusal halt all k left x below is halted whole same =
      let first : Halts refusal halt (every item k (x ∷ drop (k + 1) xs) left) =
      halts_then refusal halt (item k x left)
      (λ found. every item (k + 1) (drop (k + 1) xs) found.1 >>= λ rest. Ok (option_to_list found.0 ++ rest.0, rest.1)) halted in
      let second : Halts refusal halt (every item k (drop k xs) left) =
      subst (λ (more : List A). Halts refusal halt (every item k more left)) (sym (rest_is xs k x below is)) first in
      subst (Halts refusal halt) same (halts_then refusal halt (every item k (drop k xs) left) (λ rest. Ok (all ++ rest.0, rest.1)) second)

-- one more item has the property, where there is one
pub all_and : {A : Type 0} (P : A → Type 0) (xs : List A) (item : Option A) → AllByRecursion P xs → IfSome item P
    → AllByRecursion P (xs ++ option_to_list item)
all_and P [] None all one = tt
all_and P [] (Some y) all one = (one, tt)
all_and P (x ∷ xs) item all one = (all.0, all_and P xs item all.1 one)

-- Loops over numbers: what is read so far, with what the rest gives.
use Rattle.std.proofs.Common.{◌≡◌, ◌+◌, ◌-◌, ◌<◌, ◌≤◌, ℕ, suc, List, [], ◌∷◌, ◌++◌, Option, Ok, Err, refl, sym, ◌∙◌, ap, subst, arith, append_assoc, append-nil}
use Rattle.mdf_num.specs.declared.halt.Halt.{Halt}
use Rattle.mdf_block.specs.Refusal.{Refusal, Read, ◌>>=◌, Halts}
use Rattle.mdf_block.specs.Each.{each}
use Rattle.mdf_block.proofs.Refusals.{halts_then}

abbrev pub with_front : {A S : Type 0} → List A → Read (List A × S) → Read (List A × S)
with_front front read = read >>= λ rest. Ok (front ++ rest.0, rest.1)

pub with_none : {A S : Type 0} (read : Read (List A × S)) → with_front [] read ≡ read
with_none (Ok x) = refl
with_none (Err refusal) = refl

pub front_moves : {A S : Type 0} (rows : List A) (x : A) (read : Read (List A × S))
    → with_front rows (read >>= λ rest. Ok (x ∷ rest.0, rest.1)) ≡ with_front (rows ++ x ∷ []) read
front_moves {A} rows x (Ok rest) = ap (λ (xs : List A). Ok (xs, rest.1)) (sym (append_assoc rows (x ∷ []) rest.0))
front_moves rows x (Err refusal) = refl

-- a number below another has a successor's distance to it
more : (k end : ℕ) → k < end → end - k ≡ suc (end - (k + 1))
more k end below = omega arith

module _ {A S : Type 0} (item : ℕ → S → Read (A × S)) where
  -- the loop begins
  pub begins : (k count : ℕ) (left : S) → with_front [] (each item k count left) ≡ each item k count left
  begins k count left = with_none (each item k count left)

  -- all are read
  pub is_done : (rows : List A) (k end : ℕ) (left : S) → end ≤ k → with_front rows (each item k (end - k) left) ≡ Ok (rows, left)
  unfolding each
  is_done rows k end left past =
      let none : end - k ≡ 0 = omega arith in
      ap (λ (count : ℕ). with_front rows (each item k count left)) none ∙ ap (λ (xs : List A). Ok (xs, left)) (append-nil rows)

  -- one more was read
  pub goes_on : (rows : List A) (k end : ℕ) (left : S) (x : A) (rest : S) → k < end → item k left ≡ Ok (x, rest)
      → with_front rows (each item k (end - k) left) ≡ with_front (rows ++ x ∷ []) (each item (k + 1) (end - (k + 1)) rest)
  unfolding each
  goes_on rows k end left x rest below found =
      ap (λ (count : ℕ). with_front rows (each item k count left)) (more k end below)
      ∙ ap (λ (read : Read (A × S)). with_front rows
      (read >>= λ found. each item (k + 1) (end - (k + 1)) found.1 >>= λ rest. Ok (found.0 ∷ rest.0, rest.1))) found
      ∙ front_moves rows x (each item (k + 1) (end - (k + 1)) rest)

  -- the next one is refused
  pub ends : {E : Type 0} (refusal : E → Option Refusal) (halt : Halt E) (rows : List A) (k end : ℕ) (left : S) → k < end
      → Halts refusal halt (item k left) → (whole : Read (List A × S))
      → with_front rows (each item k (end - k) left) ≡ whole → Halts refusal halt whole
  unfolding each
  ends refusal halt rows k end left below halted whole is =
      let first : Halts refusal halt (each item k (suc (end - (k + 1))) left) =
      halts_then refusal halt (item k left)
      (λ found. each item (k + 1) (end - (k + 1)) found.1 >>= λ rest. Ok (found.0 ∷ rest.0, rest.1)) halted in
      let second : Halts refusal halt (each item k (end - k) left) =
      subst (λ (count : ℕ). Halts refusal halt (each item k count left)) (sym (more k end below)) first in
      subst (Halts refusal halt) is (halts_then refusal halt (each item k (end - k) left) (λ rest. Ok (rows ++ rest.0, rest.1)) second)

-- Samples in chunks and an open tail, of which the first are sealed.
use Rattle.std.proofs.Common.{◌≡◌, ◌+◌, ◌-◌, ◌≤◌, ℕ, List, [], ◌∷◌, ◌++◌, length, take, drop, sym, ◌∙◌, ap, arith, append_assoc, append-nil, length-take, take-append-drop}
use Rattle.std.specs.List.{All}
use Rattle.std.proofs.lemmas.List.{drop-append-le, take_at}
use Rattle.std.proofs.lemmas.List.Elements.{All-push, All-same}
use Rattle.std.proofs.Math.Seq.{drop-append-add, take-append-add}
use mathlib.Core.List.{IsPrefix}
use Rattle.mdf_layout.specs.Chunked.{joined, Seals}
use Rattle.mdf_layout.specs.declared.sample.Sample.{Sample}
use Rattle.mdf_layout.proofs.Joined.{joined_more}

module _ (chunks : List (List Sample)) (tail : List Sample) (n : ℕ) where
  -- the samples stay
  pub seal_same : joined (chunks ++ take n tail ∷ []) ++ drop n tail ≡ joined chunks ++ tail
  seal_same =
      ap (λ xs. xs ++ drop n tail) (joined_more chunks (take n tail)) ∙ append_assoc (joined chunks) (take n tail) (drop n tail)
      ∙ ap (λ xs. joined chunks ++ xs) (take-append-drop n tail)

  pub seals_more : (upto : ℕ) (after : List (List Sample)) → length (joined chunks) + n ≡ upto → after ≡ chunks ++ take n tail ∷ []
      → Seals chunks (joined chunks ++ tail) upto after
  seals_more upto after is same = record {
    stay = (take n tail ∷ [], sym same);
    ends = ap joined same ∙ joined_more chunks (take n tail) ∙ sym (take-append-add (joined chunks) tail n) ∙ ap (λ k. take k (joined chunks ++ tail)) is;
  }

  pub some_more : (after : List (List Sample)) → 1 ≤ n → n ≤ length tail → after ≡ chunks ++ take n tail ∷ []
      → All (λ chunk. 1 ≤ length chunk) chunks → All (λ chunk. 1 ≤ length chunk) after
  some_more after some within same all =
      All-same (λ (chunk : List Sample). 1 ≤ length chunk) after (chunks ++ take n tail ∷ []) same
      (All-push (λ (chunk : List Sample). 1 ≤ length chunk) chunks (take n tail) all (omega (arith, some, within, length-take n tail)))

-- nothing is left to be sealed
pub seals_nothing : (chunks : List (List Sample)) (tail : List Sample) (upto : ℕ) → upto ≡ length (joined chunks)
    → Seals chunks (joined chunks ++ tail) upto chunks
seals_nothing chunks tail upto is = record { stay = ([], append-nil chunks); ends = sym (take_at (joined chunks) tail upto (sym is)) }

-- a piece of what is sealed, and of what is not
pub piece_sealed : (chunks : List (List Sample)) (tail piece : List Sample) (at : ℕ) → at ≤ length (joined chunks) → IsPrefix piece (drop at (joined chunks))
    → IsPrefix piece (drop at (joined chunks ++ tail))
piece_sealed chunks tail piece at within begins = (
  begins.0 ++ tail,
  sym (append_assoc piece begins.0 tail) ∙ ap (λ xs. xs ++ tail) begins.1 ∙ sym (drop-append-le at (joined chunks) tail within),
)

pub piece_open : (chunks : List (List Sample)) (tail : List Sample) (at sealed : ℕ) → sealed ≡ length (joined chunks) → sealed ≤ at
    → IsPrefix (drop (at - sealed) tail) (drop at (joined chunks ++ tail))
piece_open chunks tail at sealed is past =
    let place : at ≡ length (joined chunks) + (at - sealed) = omega (arith, is, past) in (
      [],
      append-nil (drop (at - sealed) tail)
          ∙ sym (ap (λ n. drop n (joined chunks ++ tail)) place ∙ drop-append-add (joined chunks) tail (at - sealed)),
    )

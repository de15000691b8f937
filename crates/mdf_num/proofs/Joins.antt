-- Pieces of bytes, one behind the other.
use Rattle.std.proofs.Common.{◌≡◌, ◌+◌, ◌<◌, ◌≤◌, ℕ, List, [], ◌∷◌, ◌++◌, length, get_or, take, sym, ◌∙◌, ap, arith, length-append}
use Rattle.std.proofs.lemmas.List.{append-nil, take_more}
use Rattle.std.proofs.lemmas.List.Concat.{concat_is}
use Rattle.std.proofs.lemmas.List.Folds.{concat-append, length-flat_map-take}
use Rattle.std.specs.List.{concat}

-- a piece at the end
pub concat-push : (pieces : List (List ℕ)) (piece : List ℕ) → concat (pieces ++ piece ∷ []) ≡ concat pieces ++ piece
concat-push pieces piece =
    concat-append pieces (piece ∷ []) ∙ ap (λ (last : List ℕ). concat pieces ++ last) (append-nil piece)

pub length-concat-push : (pieces : List (List ℕ)) (piece : List ℕ) → length (concat (pieces ++ piece ∷ [])) ≡ length (concat pieces) + length piece
length-concat-push pieces piece =
    ap (λ (bytes : List ℕ). length bytes) (concat-push pieces piece) ∙ length-append (concat pieces) piece

-- piece k behind those before it
pub concat-take : (pieces : List (List ℕ)) (k : ℕ) (piece : List ℕ) → k < length pieces → piece ≡ get_or pieces k piece
    → concat (take k pieces) ++ piece ≡ concat (take (k + 1) pieces)
concat-take pieces k piece below is =
    ap (λ (last : List ℕ). concat (take k pieces) ++ last) is
    ∙ sym (concat-push (take k pieces) (get_or pieces k piece))
    ∙ ap (λ (front : List (List ℕ)). concat front) (sym (take_more pieces k piece below))

pub concat-within : (pieces : List (List ℕ)) (k : ℕ) (piece : List ℕ) → k < length pieces → piece ≡ get_or pieces k piece
    → length (concat (take k pieces)) + length piece ≤ length (concat pieces)
concat-within pieces k piece below is =
    omega (
      arith,
      ap (λ (bytes : List ℕ). length bytes) is,
      ap (λ (bytes : List ℕ). length bytes) (concat_is (take k pieces)),
      ap (λ (bytes : List ℕ). length bytes) (concat_is pieces),
      length-flat_map-take (λ (bytes : List ℕ). bytes) pieces k piece below,
    )

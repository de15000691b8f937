-- The mark in front of a file.
use Rattle.std.proofs.Common.{◌≡◌, ⊎_elim, ℕ, ◌<◌, List, get_or, codes, sym, ◌∙◌, ap, arith}
use Rattle.std.proofs.lemmas.List.{get_or-take}
use Rattle.mdf_format.specs.Identification.{IsMdf}
use Rattle.mdf_format.specs.Number.{bytes_at}
use Rattle.mdf_seal.specs.Images.{IsClosed}

-- a byte of the mark
pub in_mark : (file mark : List ℕ) (place : ℕ) → place < 8 → bytes_at 8 file 0 ≡ mark → get_or file place 0 ≡ get_or mark place 0
in_mark file mark place below is = sym (get_or-take 8 file place 0 below) ∙ ap (λ (bytes : List ℕ). get_or bytes place 0) is

-- a closed file has no mark
pub closed_unmarked : (file : List ℕ) → IsClosed file → IsMdf file → ⊥
closed_unmarked file closed mdf = ⊎_elim
    (λ finalized. absurd (omega (arith, closed, in_mark file (codes "MDF     ") 0 (omega arith) finalized)))
    (λ unfinalized. absurd (omega (arith, closed, in_mark file (codes "UnFinMF ") 0 (omega arith) unfinalized)))
    mdf.marked

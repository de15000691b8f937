-- What a crash may leave while a finalized file is written under a seal.
use Rattle.std.proofs.Common.{◌≡◌, inl, inr, ⊎_elim, ℕ, ◌≤◌, List, [], ◌∷◌, length, drop, get_or, codes, sym, ◌∙◌, ap, arith, Option}
use Rattle.std.proofs.lemmas.List.{drop_more, get_or-drop}
use Rattle.std.proofs.lemmas.Bool.{cases_eq}
use Rattle.mdf_format.specs.Identification.{IsFinalized}
use Rattle.mdf_disk.specs.Story.{Story}
use Rattle.mdf_disk.specs.Crash.{Adds}
use Rattle.mdf_disk.proofs.Crash.{adds_more}
use Rattle.mdf_seal.specs.Images.{IsClosed, IsSealedImage, IsWholeButFirst}
use Rattle.mdf_seal.proofs.Marks.{in_mark, closed_unmarked}
use Rattle.mdf_tool.specs.Tool.{IsSealed, IsToolImage}

-- a file with a byte other than 0 in front has one
some_first : (bytes : List ℕ) → get_or bytes 0 0 ≡ 77 → 1 ≤ length bytes
some_first [] is = absurd (cc is)
some_first (byte ∷ bytes) is = omega arith

pub some_bytes : (bytes : List ℕ) → IsFinalized bytes → 1 ≤ length bytes
some_bytes bytes marked = some_first bytes (in_mark bytes (codes "MDF     ") 0 (omega arith) marked)

-- a file of at most one byte is under its seal
pub short_sealed : (file : List ℕ) → length file ≤ 1 → IsSealed file
short_sealed file short = record { shut = inl short; no_mdf = λ mdf. absurd (omega (arith, mdf.long, short)) }

-- and so is one whose first byte is closed
closed_sealed : (file : List ℕ) → IsClosed file → IsSealed file
closed_sealed file closed = record {
  shut = inr (λ is. absurd (omega (arith, is, closed)));
  no_mdf = closed_unmarked file closed;
}

module _ (bytes : List ℕ) (marked : IsFinalized bytes) where
  first : get_or bytes 0 0 ≡ 77
  first = in_mark bytes (codes "MDF     ") 0 (omega arith) marked

  second : (file : List ℕ) → IsWholeButFirst bytes file → get_or file 1 0 ≡ 68
  second file all =
      sym (get_or-drop 1 file 0 0) ∙ ap (λ (rest : List ℕ). get_or rest 0 0) all.rest ∙ get_or-drop 1 bytes 0 0
      ∙ in_mark bytes (codes "MDF     ") 1 (omega arith) marked

  is_whole : (file : List ℕ) → IsWholeButFirst bytes file → get_or file 0 0 ≡ 77 → file ≡ bytes
  is_whole file all is =
      drop_more file 0 0 (omega (arith, all.long, some_bytes bytes marked))
      ∙ ap (λ (byte : ℕ). byte ∷ drop 1 file) (is ∙ sym first)
      ∙ ap (λ (rest : List ℕ). get_or bytes 0 0 ∷ rest) all.rest
      ∙ sym (drop_more bytes 0 0 (some_bytes bytes marked))

  whole_image : (file : List ℕ) → IsWholeButFirst bytes file → IsToolImage bytes file
  whole_image file all = ⊎_elim
      (λ is. inr (is_whole file all is))
      (λ other. inl (record {
        shut = inr other;
        no_mdf = λ mdf. ⊎_elim
            (λ finalized. other (in_mark file (codes "MDF     ") 0 (omega arith) finalized))
            (λ unfinalized. absurd (omega (arith, second file all, in_mark file (codes "UnFinMF ") 1 (omega arith) unfinalized)))
            mdf.marked;
      }))
      (cases_eq (get_or file 0 0) 77)

  pub sealed_image : (file : List ℕ) → IsSealedImage bytes file → IsToolImage bytes file
  sealed_image file (inl short) = inl (short_sealed file short)
  sealed_image file (inr (inl closed)) = inl (closed_sealed file closed)
  sealed_image file (inr (inr all)) = whole_image file all

  pub adds_image : (old new : Option Story) → Adds old new (IsSealedImage bytes) → Adds old new (IsToolImage bytes)
  adds_image old new adds = adds_more old new (IsSealedImage bytes) (IsToolImage bytes) sealed_image adds

-- The tests of the identification.
use Rattle.std.proofs.Common.{◌≡◌, ℕ, true, List, codes, Result, Ok, Err, sym, ◌∙◌, ap, inl, inr}
use Rattle.std.proofs.lemmas.Bool.{leb-true, le-leb, and_parts, and_from, or_cases, or_left, or_right, false_from_ne_true, cond-true, cond-false}
use Rattle.std.proofs.lemmas.Bool.Decides.{same_from_decides}
use Rattle.std.proofs.lemmas.Slice.Eq.{bytes_eq-Decides}
use Rattle.std.specs.Prelude.{IfOk, IfErr}
use Rattle.mdf_format.specs.Number.{bytes_at}
use Rattle.mdf_format.specs.Identification.{IsMdf, HasReadVersion}
use Rattle.mdf_block.specs.Refusal.{Version, Read, GivesOf}
use Rattle.mdf_head.specs.declared.identity.Ident.{Ident}
use Rattle.mdf_head.specs.declared.fault.IdentFault.{IdentFault}
use Rattle.mdf_head.specs.declared.fault.IdentFault.TheVariants as faults
use Rattle.mdf_head.specs.Ident.{IsIdent, HasNoIdent, is_finalized, is_mdf, has_read_version, the_ident, identify, ident_refusal}

pub is_mdf_true : (f : List ℕ) → is_mdf f ≡ true → IsMdf f
is_mdf_true f holds =
    let parts = and_parts _ _ holds in record {
      long = leb-true _ _ parts.0;
      marked = elim (or_cases _ _ parts.1) [
        | inl first ↦ inl ((bytes_eq-Decides (bytes_at 8 f 0) (codes "MDF     ")).0 first)
        | inr second ↦ inr ((bytes_eq-Decides (bytes_at 8 f 0) (codes "UnFinMF ")).0 second)
      ];
    }

pub mdf_is_true : (f : List ℕ) → IsMdf f → is_mdf f ≡ true
mdf_is_true f is = and_from _ _ (le-leb _ _ is.long) (elim is.marked [
  | inl first ↦ or_left _ _ ((bytes_eq-Decides (bytes_at 8 f 0) (codes "MDF     ")).1 first)
  | inr second ↦ or_right _ _ ((bytes_eq-Decides (bytes_at 8 f 0) (codes "UnFinMF ")).1 second)
])

pub read_version_true : (f : List ℕ) → has_read_version f ≡ true → HasReadVersion f
read_version_true f holds =
    let parts = and_parts _ _ holds in record { not_below = leb-true _ _ parts.0; not_above = leb-true _ _ parts.1 }

pub read_version_is_true : (f : List ℕ) → HasReadVersion f → has_read_version f ≡ true
read_version_is_true f is = and_from _ _ (le-leb _ _ is.not_below) (le-leb _ _ is.not_above)

the_ident_is : (f : List ℕ) (id : Ident) → IsIdent f id → the_ident f ≡ id
the_ident_is f id is =
    let finalized : is_finalized f ≡ id.finalized =
    same_from_decides _ _ (bytes_eq-Decides (bytes_at 8 f 0) (codes "MDF     ")) is.finalized in
    rw (finalized, ← is.ver, ← is.std_flags, ← is.custom_flags)

-- the identification is what `identify` finds
pub identified : (f : List ℕ) (answer : Result Ident IdentFault) → IfOk answer (λ _. IsMdf f × HasReadVersion f)
    → IfOk answer (IsIdent f) → IfErr answer (HasNoIdent f) → GivesOf ident_refusal answer (identify f)
unfolding identify
identified f (Ok id) mdf found refused =
    cond-true (is_mdf f) _ _ (mdf_is_true f mdf.0) ∙ cond-true (has_read_version f) _ _ (read_version_is_true f mdf.1)
    ∙ ap {B = Read Ident} Ok (the_ident_is f id found)
identified f (Err faults.NotMdf) mdf found refused =
    cond-false (is_mdf f) _ _ (false_from_ne_true (is_mdf f) (λ holds. refused (is_mdf_true f holds)))
identified f (Err (faults.Version ver)) mdf found refused =
    cond-true (is_mdf f) _ _ (mdf_is_true f refused.0)
    ∙ cond-false (has_read_version f) _ _ (false_from_ne_true (has_read_version f) (λ holds. refused.1 (read_version_true f holds)))
    ∙ ap {B = Read Ident} (λ (n : ℕ). Err (Version n)) (sym refused.2)

-- What is missing of a recording, at the address that was read from a link.
use Rattle.std.proofs.Common.{◌≡◌, inl, inr, ⊎_elim, ℕ, List, codes, refl, sym, subst, arith}
use Rattle.std.specs.Prelude.{IsTrue}
use Rattle.mdf_format.specs.Identification.{IsMdf, IsFinalized, IsUnfinalized}
use Rattle.mdf_seal.proofs.Marks.{in_mark}
use Rattle.mdf_format.specs.Block.{IsBlock}
use Rattle.mdf_head.specs.declared.identity.Ident.{Ident}
use Rattle.mdf_head.specs.Ident.{IsIdent}
use Rattle.mdf_format.specs.declared.kind.Kind.TheVariants.{Hd, Dg, Dt}
use Rattle.mdf_format.specs.Form.{NamesForm, IsInRecordingForm}
use Rattle.mdf_gate.specs.Recording.{HEADER, first_group, first_place, IsPlace, IsRecording}
use Rattle.mdf_gate.specs.Fault.{IsFormed, HasFault}
use Rattle.mdf_gate.specs.declared.answer.GateFault.{GateFault}
use Rattle.mdf_gate.specs.declared.answer.GateFault.TheVariants.{Bad}

module _ (file : List ℕ) (formed : IsFormed file) (header : IsBlock file HEADER Hd) where
  pub no_group : (at : ℕ) (fault : GateFault) → at ≡ first_group file → ¬ IsBlock file at Dg → fault ≡ Bad at Dg → HasFault file fault
  no_group at fault is none bad = subst (HasFault file) (sym bad) (inr (inl (record {
    formed = formed;
    header = header;
    at_group = is;
    kind = refl;
    none = subst (λ a. ¬ IsBlock file a Dg) is none;
  })))

  pub no_place : (at : ℕ) → IsBlock file (first_group file) Dg → at ≡ first_place file → ¬ IsPlace at → HasFault file (Bad at Dt)
  no_place at group is none = inr (inr (inl (record {
    formed = formed;
    header = header;
    group = group;
    at_place = is;
    kind = refl;
    none = subst (λ a. ¬ IsPlace a) is none;
  })))

  pub is_recording : (place : ℕ) → IsBlock file (first_group file) Dg → place ≡ first_place file → IsPlace place → IsRecording file
  is_recording place group is there = record {
    identified = formed.identified;
    version = formed.version;
    form = formed.form;
    header = header;
    group = group;
    place = subst IsPlace is there;
  }

-- no file is marked as both
both_marks : (file : List ℕ) → IsFinalized file → IsUnfinalized file → ⊥
both_marks file closed left_open =
    absurd (omega (arith, in_mark file (codes "MDF     ") 0 (omega arith) closed, in_mark file (codes "UnFinMF ") 0 (omega arith) left_open))

-- what the words of the identification say of the form
module _ (file : List ℕ) (id : Ident) (mdf : IsMdf file) (is : IsIdent file id) where
  pub in_form : (¬ IsTrue id.finalized) × NamesForm id.custom_flags → IsInRecordingForm file
  in_form words = record {
    unfinalized = ⊎_elim (λ closed. absurd (words.0 (is.finalized.1 closed))) (λ left_open. left_open) mdf.marked;
    custom = subst NamesForm is.custom_flags words.1;
  }

  pub of_form : IsInRecordingForm file → (¬ IsTrue id.finalized) × NamesForm id.custom_flags
  of_form form = (λ finalized. both_marks file (is.finalized.0 finalized) form.unfinalized, subst NamesForm (sym is.custom_flags) form.custom)

-- The head of a recording is one, and its data begin where it ends.
use Rattle.std.proofs.Common.{◌≡◌, ◌%◌, ℕ, List, [], ◌++◌, refl, sym, ◌∙◌, ap, subst, inl, inr, arith, append-nil}
use Rattle.mdf_format.specs.Form.{IsInRecordingForm}
use Rattle.mdf_format.specs.declared.form.Form.{Form}
use Rattle.mdf_format.specs.declared.form.Form.TheVariants.{Bare, Listed}
use Rattle.mdf_format.specs.Identification.{IsMdf, HasReadVersion}
use Rattle.mdf_format.specs.Block.{link_at, IsBlock, IsChain}
use Rattle.mdf_format.specs.declared.kind.Kind.TheVariants.{Dg}
use Rattle.mdf_block.specs.Draft.{Placed, end_of, address_of}
use Rattle.mdf_block.proofs.Laying.{length-written, end_on_eight}
use Rattle.mdf_head.specs.declared.entry.Head.{Head}
use Rattle.mdf_group.specs.declared.row.GroupRow.{GroupRow}
use Rattle.mdf_group.specs.declared.row.DataRow.{DataRow}
use Rattle.mdf_gate.specs.Recording.{first_group, first_place}
use Rattle.mdf_gate.specs.Gated.{IsRecordingHead}
use Rattle.mdf_spell.specs.Recording.{recording_ident, recording_blocks, head_file, IsRecordingTree}

-- the identification says what a recording's does
abbrev SaysRecording : List ℕ → Type 0
SaysRecording file = IsMdf file × HasReadVersion file × IsInRecordingForm file

ident_is : (form : Form) (rest : List ℕ) → SaysRecording (recording_ident form ++ rest)
ident_is Bare rest = (
  record { long = omega arith; marked = inr refl },
  record { not_below = omega arith; not_above = omega arith },
  record { unfinalized = refl; custom = inl refl },
)
ident_is Listed rest = (
  record { long = omega arith; marked = inr refl },
  record { not_below = omega arith; not_above = omega arith },
  record { unfinalized = refl; custom = inr refl },
)

module _ (form : Form) (start : ℕ) (rows : List GroupRow) where
  abbrev blocks : List Placed
  blocks = recording_blocks start rows

  abbrev file : List ℕ
  file = head_file form start rows

  pub head_is_recording : IsRecordingTree (head_file form start rows) start rows → IsRecordingHead (head_file form start rows)
  unfolding IsChain
  head_is_recording tree =
      let first : first_group file ≡ address_of blocks 3 = sym (ap (λ (h : Head). h.first_dg) tree.head.fields) in
      let content : link_at file (address_of blocks 3) 2 ≡ end_of blocks =
      sym (ap (λ (row : DataRow). row.content) tree.groups.each.0.fields) in
      let place : first_place file ≡ end_of blocks = ap (λ (at : ℕ). link_at file at 2) first ∙ content in
      let ident = ident_is form _ in record {
        recording = record {
          identified = ident.0;
          version = ident.1;
          form = ident.2;
          header = tree.head.block;
          group = subst (λ (at : ℕ). IsBlock file at Dg) (sym first) tree.groups.chain.1;
          place = record { there = λ none. omega (arith, none, place); on_eight = ap (λ (n : ℕ). n % 8) place ∙ end_on_eight blocks };
        };
        ends = place ∙ sym (length-written (recording_ident form) blocks refl);
      }

-- the same of bytes that are this head
pub bytes_are_recording : (bytes : List ℕ) (form : Form) (start : ℕ) (rows : List GroupRow) → bytes ≡ head_file form start rows
    → ((more : List ℕ) → IsRecordingTree (bytes ++ more) start rows) → IsRecordingHead bytes
bytes_are_recording bytes form start rows is tree =
    let whole = subst (λ (xs : List ℕ). IsRecordingTree xs start rows) (append-nil bytes ∙ is) (tree []) in
    subst (λ (xs : List ℕ). IsRecordingHead xs) (sym is) (head_is_recording form start rows whole)

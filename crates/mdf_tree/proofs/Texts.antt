-- Texts and sources that are written stand as they were given.
use Rattle.std.proofs.Common.{◌≡◌, ◌+◌, ◌-◌, ℕ, suc, Bool, not, cond, List, [], ◌∷◌, ◌++◌, length, replicate, refl, sym, ◌∙◌, ap, subst, arith}
use Rattle.std.proofs.lemmas.Bool.{ne_eqb}
use Rattle.std.proofs.lemmas.List.{take_at}
use Rattle.std.specs.List.{position_or_len}
use Rattle.mdf_format.specs.Number.{aligned}
use Rattle.mdf_format.specs.Block.{link_at}
use Rattle.mdf_block.specs.declared.note.Note.{Note}
use Rattle.mdf_block.specs.declared.note.Note.TheVariants as notes
use Rattle.mdf_block.specs.Text.{is_zero, text_of, IsNote}
use Rattle.mdf_block.specs.Draft.{Placed, address_of, link_number, AllStand}
use Rattle.mdf_conv.specs.declared.row.SourceInfo.{SourceInfo}
use Rattle.mdf_conv.specs.Conv.{the_source}
use Rattle.mdf_conv.specs.Standing.{IsSource}
use Rattle.mdf_tree.specs.Text.{text_body, note_blocks, note_link, IsText, IsWritable}
use Rattle.mdf_tree.specs.Conv.{source_blocks, IsSourceWritable}
use Rattle.mdf_tree.proofs.Has.{Has, has_left, has_right, has_more, here, address_some}

-- a text ends before its first zero byte
zero_place : (bytes fill : List ℕ) → IsText bytes → position_or_len is_zero (bytes ++ 0 ∷ fill) ≡ length bytes
zero_place [] fill is = refl
zero_place (byte ∷ bytes) fill is =
    let rest = zero_place bytes fill is.1 in
    let next : 1 + position_or_len is_zero (bytes ++ 0 ∷ fill) ≡ suc (length bytes) = omega (arith, rest) in
    ap (λ (b : Bool). cond (not b) (1 + position_or_len is_zero (bytes ++ 0 ∷ fill)) 0) (ne_eqb byte 0 is.0) ∙ next

text_ends : (bytes fill : List ℕ) → IsText bytes → text_of (bytes ++ 0 ∷ fill) ≡ bytes
text_ends bytes fill is = take_at bytes (0 ∷ fill) (position_or_len is_zero (bytes ++ 0 ∷ fill)) (sym (zero_place bytes fill is))

-- at least one zero byte follows
fill_some : (n : ℕ) → ◌≡◌ {A = List ℕ} (replicate (aligned (n + 1) - n) 0) (0 ∷ replicate (aligned (n + 1) - n - 1) 0)
fill_some n =
    let more : aligned (n + 1) - n ≡ suc (aligned (n + 1) - n - 1) = omega arith in ap (λ (count : ℕ). replicate count 0) more

pub text_back : (bytes : List ℕ) → IsText bytes → text_of (text_body bytes) ≡ bytes
text_back bytes is =
    ap (λ (fill : List ℕ). text_of (bytes ++ fill)) (fill_some (length bytes)) ∙ text_ends bytes _ is

pub note_stands : (file : List ℕ) (blocks : List Placed) → AllStand file blocks → (n : ℕ) (note : Note) → IsWritable note
    → Has blocks n (note_blocks note) → IsNote file (link_number blocks (note_link n note)) note
unfolding note_blocks note_link
note_stands file blocks all n notes.Nothing is has = refl
note_stands file blocks all n (notes.Plain bytes) is has =
    let s = here file blocks n _ _ all has in (
      address_some blocks n,
      s.whole (record { linked = omega arith; filled = omega arith }),
      sym (ap text_of s.body ∙ text_back bytes is),
    )
note_stands file blocks all n (notes.Xml bytes) is has =
    let s = here file blocks n _ _ all has in (
      address_some blocks n,
      s.whole (record { linked = omega arith; filled = omega arith }),
      sym (ap text_of s.body ∙ text_back bytes is),
    )

-- the text that a link of a block names
pub linked_note : (file : List ℕ) (blocks : List Placed) → AllStand file blocks → (n : ℕ) (note : Note) (at k : ℕ)
    → link_at file at k ≡ link_number blocks (note_link n note) → IsWritable note → Has blocks n (note_blocks note)
    → IsNote file (link_at file at k) note
linked_note file blocks all n note at k named is has =
    subst (λ (place : ℕ). IsNote file place note) (sym named) (note_stands file blocks all n note is has)

pub source_stands : (file : List ℕ) (blocks : List Placed) → AllStand file blocks → (n : ℕ) (source : SourceInfo) → IsSourceWritable source
    → Has blocks n (source_blocks n source) → IsSource file (address_of blocks n) source
unfolding source_blocks
source_stands file blocks all n source is has =
    let s = here file blocks n _ _ all has in
    let at = address_of blocks n in
    let texts = has_more blocks n _ _ has in
    let name = has_left blocks (n + 1) (note_blocks source.name) (note_blocks source.path ++ note_blocks source.comment) texts in
    let behind = has_right blocks (n + 1) (note_blocks source.name) (note_blocks source.path ++ note_blocks source.comment) texts in
    let second = n + 1 + length (note_blocks source.name) in
    let path = has_left blocks second (note_blocks source.path) (note_blocks source.comment) behind in
    let comment = has_right blocks second (note_blocks source.path) (note_blocks source.comment) behind in record {
      block = s.whole (record { linked = omega arith; filled = omega arith });
      fields = ap (λ (body : List ℕ). the_source body source.name source.path source.comment) (sym s.body);
      name = linked_note file blocks all _ source.name at 0 (s.link 0 (omega arith)) is.name name;
      path = linked_note file blocks all _ source.path at 1 (s.link 1 (omega arith)) is.path path;
      comment = linked_note file blocks all _ source.comment at 2 (s.link 2 (omega arith)) is.comment comment;
    }

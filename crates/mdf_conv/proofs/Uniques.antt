-- What stands at an address stands there alone: one source, and one conversion, whatever levels are read.
use Rattle.std.proofs.Common.{◌≡◌, ◌≢◌, ◌+◌, ◌<◌, ℕ, zero, suc, List, [], ◌∷◌, length, get_or, refl, sym, ◌∙◌, ap, inl, inr, arith, lit<}
use Rattle.mdf_format.specs.Block.{name_of, link_at, body_at, IsBlock}
use Rattle.mdf_format.specs.declared.kind.Kind.TheVariants.{Cc, Tx, Md}
use Rattle.mdf_block.specs.declared.note.Note.{Note}
use Rattle.mdf_block.specs.declared.note.Note.TheVariants as notes
use Rattle.mdf_block.specs.Text.{IsNote}
use Rattle.mdf_block.proofs.Uniques.{note_unique}
use Rattle.mdf_conv.specs.declared.row.SourceInfo.{SourceInfo}
use Rattle.mdf_conv.specs.declared.row.Conversion.{Conversion}
use Rattle.mdf_conv.specs.declared.row.Ref.{Ref}
use Rattle.mdf_conv.specs.declared.row.Ref.TheVariants as refs
use Rattle.mdf_conv.specs.Conv.{the_source, the_conversion}
use Rattle.mdf_conv.specs.Standing.{IsSource, IsRefBy, AreRefsBy, IsConversionBy, IsConversion}

pub source_unique : (f : List ℕ) (at : ℕ) (a b : SourceInfo) → IsSource f at a → IsSource f at b → a ≡ b
source_unique f at a b is_a is_b =
    is_a.fields
    ∙ ap (λ (n : Note). the_source (body_at f at) n a.path a.comment) (note_unique f (link_at f at 0) a.name b.name is_a.name is_b.name)
    ∙ ap (λ (n : Note). the_source (body_at f at) b.name n a.comment) (note_unique f (link_at f at 1) a.path b.path is_a.path is_b.path)
    ∙ ap (λ (n : Note). the_source (body_at f at) b.name b.path n) (note_unique f (link_at f at 2) a.comment b.comment is_a.comment is_b.comment)
    ∙ sym is_b.fields

-- a text is no conversion
letters_differ : (m t a b : ℕ) → a < b → m ≡ a → t ≡ b → m ≡ t → ⊥
letters_differ m t a b less is_m is_t same = omega (arith, less, is_m, is_t, same)

pub cc_is_not_tx : name_of Cc ≡ name_of Tx → ⊥
cc_is_not_tx same = letters_differ 67 84 67 84 (lit< tt) refl refl (ap (λ (bytes : List ℕ). get_or bytes 2 0) same)

pub cc_is_not_md : name_of Cc ≡ name_of Md → ⊥
cc_is_not_md same = letters_differ 67 77 67 77 (lit< tt) refl refl (ap (λ (bytes : List ℕ). get_or bytes 2 0) same)

no_words : (f : List ℕ) (at : ℕ) (note : Note) → at ≢ 0 → IsNote f at note → IsBlock f at Cc → ⊥
no_words f at notes.Nothing some is conv = some is
no_words f at (notes.Plain bytes) some is conv = cc_is_not_tx (sym conv.named ∙ is.1.named)
no_words f at (notes.Xml bytes) some is conv = cc_is_not_md (sym conv.named ∙ is.1.named)

module _ (f : List ℕ) (IsOne IsOther : ℕ → Conversion → Type 0)
    (same : (at : ℕ) (a b : Conversion) → IsOne at a → IsOther at b → a ≡ b)
    (one_block : (at : ℕ) (a : Conversion) → IsOne at a → IsBlock f at Cc)
    (other_block : (at : ℕ) (b : Conversion) → IsOther at b → IsBlock f at Cc) where
  ref_unique : (at : ℕ) (a b : Ref) → IsRefBy IsOne f at a → IsRefBy IsOther f at b → a ≡ b
  ref_unique at a b (inl p) (inl q) = p.1 ∙ sym q.1
  ref_unique at a b (inl p) (inr (inl q)) = absurd (q.0 p.0)
  ref_unique at a b (inl p) (inr (inr q)) = absurd (q.0 p.0)
  ref_unique at a b (inr (inl p)) (inl q) = absurd (p.0 q.0)
  ref_unique at a b (inr (inl p)) (inr (inl q)) = p.1.1 ∙ ap refs.Words (note_unique f at p.1.0 q.1.0 p.1.2 q.1.2) ∙ sym q.1.1
  ref_unique at a b (inr (inl p)) (inr (inr q)) = absurd (no_words f at p.1.0 p.0 p.1.2 (other_block at q.1.0 q.1.2))
  ref_unique at a b (inr (inr p)) (inl q) = absurd (p.0 q.0)
  ref_unique at a b (inr (inr p)) (inr (inl q)) = absurd (no_words f at q.1.0 q.0 q.1.2 (one_block at p.1.0 p.1.2))
  ref_unique at a b (inr (inr p)) (inr (inr q)) = p.1.1 ∙ ap refs.Conv (same at p.1.0 q.1.0 p.1.2 q.1.2) ∙ sym q.1.1

  refs_unique : (at k : ℕ) (a b : List Ref) → length a ≡ length b → AreRefsBy IsOne f at k a → AreRefsBy IsOther f at k b → a ≡ b
  refs_unique at k [] [] long is_a is_b = refl
  refs_unique at k [] (y ∷ ys) long is_a is_b = absurd (omega (arith, long))
  refs_unique at k (x ∷ xs) [] long is_a is_b = absurd (omega (arith, long))
  refs_unique at k (x ∷ xs) (y ∷ ys) long is_a is_b =
      ap (λ (z : Ref). z ∷ xs) (ref_unique (link_at f at k) x y is_a.0 is_b.0)
      ∙ ap (λ (zs : List Ref). y ∷ zs) (refs_unique at (k + 1) xs ys (omega (arith, long)) is_a.1 is_b.1)

  conv_by_unique : (at : ℕ) (a b : Conversion) → IsConversionBy IsOne f at a → IsConversionBy IsOther f at b → a ≡ b
  conv_by_unique at a b is_a is_b =
      let body = body_at f at in
      let one = is_a.texts in
      let other = is_b.texts in
      is_a.fields
      ∙ ap (λ (n : Note). the_conversion body (record { name = n; unit = one.unit; comment = one.comment }) is_a.references)
      (note_unique f (link_at f at 0) one.name other.name is_a.name is_b.name)
      ∙ ap (λ (n : Note). the_conversion body (record { name = other.name; unit = n; comment = one.comment }) is_a.references)
      (note_unique f (link_at f at 1) one.unit other.unit is_a.unit is_b.unit)
      ∙ ap (λ (n : Note). the_conversion body (record { name = other.name; unit = other.unit; comment = n }) is_a.references)
      (note_unique f (link_at f at 2) one.comment other.comment is_a.comment is_b.comment)
      ∙ ap (λ (rows : List Ref). the_conversion body other rows)
      (refs_unique at 4 is_a.references is_b.references (omega (arith, is_a.count, is_b.count)) is_a.each is_b.each)
      ∙ sym is_b.fields

pub conv_block : (levels : ℕ) (f : List ℕ) (at : ℕ) (conversion : Conversion) → IsConversion levels f at conversion → IsBlock f at Cc
unfolding IsConversion
conv_block zero f at conversion is = absurd is
conv_block (suc levels) f at conversion is = is.block

pub conv_unique : (one other : ℕ) (f : List ℕ) (at : ℕ) (a b : Conversion) → IsConversion one f at a → IsConversion other f at b → a ≡ b
unfolding IsConversion
conv_unique zero other f at a b is_a is_b = absurd is_a
conv_unique (suc one) zero f at a b is_a is_b = absurd is_b
conv_unique (suc one) (suc other) f at a b is_a is_b =
    conv_by_unique f (IsConversion one f) (IsConversion other f) (λ place x y is_x is_y. conv_unique one other f place x y is_x is_y)
    (conv_block one f) (conv_block other f) at a b is_a is_b

-- What is found stands in the file.
use Rattle.std.proofs.Common.{◌≡◌, ◌+◌, ◌-◌, ℕ, zero, suc, List, [], length, Ok, Err, refl, sym, ap, subst, inl, inr, arith}
use Rattle.std.proofs.lemmas.Bool.{eqb-true, eqb-false}
use Rattle.std.specs.Prelude.{nat_eq, cond}
use Rattle.mdf_format.specs.Block.{link_at, links_at, body_at}
use Rattle.mdf_format.specs.declared.kind.Kind.TheVariants.{Cc, Si}
use Rattle.mdf_block.specs.declared.place.BlockAt.{BlockAt}
use Rattle.mdf_block.specs.declared.note.Note.{Note}
use Rattle.mdf_block.specs.Refusal.{Read, Deep, ◌>>=◌}
use Rattle.mdf_block.specs.Block.{block, body_of, is_named}
use Rattle.mdf_block.specs.Text.{note, IsNote}
use Rattle.mdf_block.specs.Each.{each}
use Rattle.mdf_block.proofs.Refusals.{bind_ok}
use Rattle.mdf_block.proofs.Wholes.{chosen, block_found}
use Rattle.mdf_block.proofs.Notes.{note_found}
use Rattle.mdf_conv.specs.declared.limits.Budget.{Budget}
use Rattle.mdf_conv.specs.declared.row.SourceInfo.{SourceInfo}
use Rattle.mdf_conv.specs.declared.row.Conversion.{Conversion}
use Rattle.mdf_conv.specs.declared.row.Ref.{Ref}
use Rattle.mdf_conv.specs.declared.row.Ref.TheVariants as refs
use Rattle.mdf_conv.specs.declared.texts.Texts.{Texts}
use Rattle.mdf_conv.specs.Conv.{words, block_size, counted, the_source, source, the_conversion, texts, ref_by, item_by, conv_of_block, conv_by, conv}
use Rattle.mdf_conv.specs.Standing.{IsSource, IsRefBy, AreRefsBy, IsConversionBy, IsConversion}

pub ok_injective : {A : Type 0} (x y : A) → ◌≡◌ {A = Read A} (Ok x) (Ok y) → x ≡ y
ok_injective x y same = cc

-- a text
pub words_found : (f : List ℕ) (at : ℕ) (left : Budget) (found : Note × Budget) → words f at left ≡ Ok found → IsNote f at found.0
unfolding words
words_found f at left found is =
    let text = bind_ok (note f at left.text) _ found is in
    let there = note_found f at left.text text.0.0 text.0.1 text.1 in
    subst (λ (y : Note × Budget). IsNote f at y.0) (ok_injective _ _ text.2) there.0

-- the texts of a source or of a conversion
pub record AreTexts (f : List ℕ) (at : ℕ) (found : Texts) : Type 0 where
  pub name : IsNote f (link_at f at 0) found.name
  pub unit : IsNote f (link_at f at 1) found.unit
  pub comment : IsNote f (link_at f at 2) found.comment

pub texts_found : (f : List ℕ) (at : ℕ) (left : Budget) (found : Texts × Budget) → texts f at left ≡ Ok found → AreTexts f at found.0
unfolding texts
texts_found f at left found is =
    let name = bind_ok (words f (link_at f at 0) left) _ found is in
    let unit = bind_ok (words f (link_at f at 1) name.0.1) _ found name.2 in
    let comment = bind_ok (words f (link_at f at 2) unit.0.1) _ found unit.2 in
    let whole : AreTexts f at (record { name = name.0.0; unit = unit.0.0; comment = comment.0.0 }) = record {
      name = words_found f _ left name.0 name.1;
      unit = words_found f _ name.0.1 unit.0 unit.1;
      comment = words_found f _ unit.0.1 comment.0 comment.1;
    } in
    subst (λ (y : Texts × Budget). AreTexts f at y.0) (ok_injective _ _ comment.2) whole

-- a source
pub source_found : (f : List ℕ) (at : ℕ) (left : Budget) (found : SourceInfo × Budget) → source f at left ≡ Ok found → IsSource f at found.0
unfolding source
source_found f at left found is =
    let first = bind_ok (block f at Si) _ found is in
    let here = block_found f at Si first.0 first.1 in
    let place : first.0.at ≡ at = ap (λ (b : BlockAt). b.at) here.1 in
    let body : body_of f first.0 ≡ body_at f at = ap (λ (b : BlockAt). body_of f b) here.1 in
    let given = bind_ok (texts f first.0.at left) _ found first.2 in
    let there : AreTexts f at given.0.0 =
    subst (λ (a : ℕ). AreTexts f a given.0.0) place (texts_found f first.0.at left given.0 given.1) in
    let whole : IsSource f at (the_source (body_at f at) given.0.0.name given.0.0.unit given.0.0.comment) = record {
      block = here.0;
      fields = refl;
      name = there.name;
      path = there.unit;
      comment = there.comment;
    } in
    subst (λ (y : SourceInfo × Budget). IsSource f at y.0) (ok_injective _ _ given.2)
    (subst (λ (bytes : List ℕ). IsSource f at (the_source bytes given.0.0.name given.0.0.unit given.0.0.comment)) (sym body) whole)

-- what is found by `inner` is what `IsConv` says
abbrev Sound : (ℕ → Budget → Read (Conversion × Budget)) → (ℕ → Conversion → Type 0) → Type 0
Sound inner IsConv = (at : ℕ) (left : Budget) (found : Conversion × Budget) → inner at left ≡ Ok found → IsConv at found.0

abbrev as_conv : Conversion × Budget → Read (Ref × Budget)
as_conv found = Ok (refs.Conv found.0, found.1)

abbrev as_words : Note × Budget → Read (Ref × Budget)
as_words found = Ok (refs.Words found.0, found.1)

module _ (inner : ℕ → Budget → Read (Conversion × Budget)) (IsConv : ℕ → Conversion → Type 0) (sound : Sound inner IsConv) (f : List ℕ) where
  ref_found : (at : ℕ) (left : Budget) (found : Ref × Budget) → ref_by inner f at left ≡ Ok found → IsRefBy IsConv f at found.0
  unfolding ref_by
  ref_found at left found is =
      elim (chosen (nat_eq at 0) (Ok (refs.Nothing, left)) (cond (is_named f at Cc) (inner at left >>= as_conv) (words f at left >>= as_words)) (Ok found) is) [
        | inl none ↦ subst (λ (y : Ref × Budget). IsRefBy IsConv f at y.0) (ok_injective _ _ none.1) (inl (eqb-true at 0 none.0, refl))
        | inr some ↦
            elim (chosen (is_named f at Cc) (inner at left >>= as_conv) (words f at left >>= as_words) (Ok found) some.1) [
              | inl named ↦
                  let parts = bind_ok (inner at left) as_conv found named.1 in
                  subst (λ (y : Ref × Budget). IsRefBy IsConv f at y.0) (ok_injective _ _ parts.2)
                  (inr (inr (eqb-false at 0 some.0, (parts.0.0, refl, sound at left parts.0 parts.1))))
              | inr other ↦
                  let parts = bind_ok (words f at left) as_words found other.1 in
                  subst (λ (y : Ref × Budget). IsRefBy IsConv f at y.0) (ok_injective _ _ parts.2)
                  (inr (inl (eqb-false at 0 some.0, (parts.0.0, refl, words_found f at left parts.0 parts.1))))
            ]
      ]

  refs_found : (at k count : ℕ) (left : Budget) (found : List Ref × Budget) → each (item_by inner f at) k count left ≡ Ok found
      → AreRefsBy IsConv f at k found.0 × (length found.0 ≡ count)
  unfolding each
  refs_found at k zero left found is =
      subst (λ (y : List Ref × Budget). AreRefsBy IsConv f at k y.0 × (length y.0 ≡ 0)) (ok_injective ([], left) found is) (tt, refl)
  refs_found at k (suc count) left found is =
      let first = bind_ok (item_by inner f at k left) _ found is in
      let rest = bind_ok (each (item_by inner f at) (k + 1) count first.0.1) _ found first.2 in
      let behind = refs_found at (k + 1) count first.0.1 rest.0 rest.1 in
      subst (λ (y : List Ref × Budget). AreRefsBy IsConv f at k y.0 × (length y.0 ≡ suc count)) (ok_injective _ _ rest.2)
      ((ref_found (link_at f at k) left first.0 first.1, behind.0), ap suc behind.1)

  conv_by_found : (at : ℕ) (left : Budget) (found : Conversion × Budget) → conv_by inner f at left ≡ Ok found → IsConversionBy IsConv f at found.0
  unfolding conv_by conv_of_block
  conv_by_found at left found is =
      let first = bind_ok (block f at Cc) _ found is in
      let here = block_found f at Cc first.0 first.1 in
      let place : first.0.at ≡ at = ap (λ (b : BlockAt). b.at) here.1 in
      let links : first.0.links ≡ links_at f at = ap (λ (b : BlockAt). b.links) here.1 in
      let body : body_of f first.0 ≡ body_at f at = ap (λ (b : BlockAt). body_of f b) here.1 in
      let one = bind_ok (counted at (block_size first.0) left) _ found first.2 in
      let named = bind_ok (texts f first.0.at one.0) _ found one.2 in
      let given = bind_ok (each (item_by inner f first.0.at) 4 (first.0.links - 4) named.0.1) _ found named.2 in
      let there = texts_found f first.0.at one.0 named.0 named.1 in
      let all = refs_found first.0.at 4 (first.0.links - 4) named.0.1 given.0 given.1 in
      let whole : IsConversionBy IsConv f at (the_conversion (body_at f at) named.0.0 given.0.0) = record {
        block = here.0;
        texts = named.0.0;
        references = given.0.0;
        fields = refl;
        name = subst (λ (a : ℕ). IsNote f (link_at f a 0) named.0.0.name) place there.name;
        unit = subst (λ (a : ℕ). IsNote f (link_at f a 1) named.0.0.unit) place there.unit;
        comment = subst (λ (a : ℕ). IsNote f (link_at f a 2) named.0.0.comment) place there.comment;
        count = omega (arith, all.1, links, here.0.linked);
        each = subst (λ (a : ℕ). AreRefsBy IsConv f a 4 given.0.0) place all.0;
      } in
      subst (λ (y : Conversion × Budget). IsConversionBy IsConv f at y.0) (ok_injective _ _ given.2)
      (subst (λ (bytes : List ℕ). IsConversionBy IsConv f at (the_conversion bytes named.0.0 given.0.0)) (sym body) whole)

-- a conversion
pub conv_found : (levels : ℕ) (f : List ℕ) (at : ℕ) (left : Budget) (found : Conversion × Budget) → conv levels f at left ≡ Ok found
    → IsConversion levels f at found.0
unfolding conv IsConversion
conv_found zero f at left found is =
    let parts = bind_ok (block f at Cc) (λ _. Err (Deep at)) found is in
    let wrong : ◌≡◌ {A = Read (Conversion × Budget)} (Err (Deep at)) (Ok found) = parts.2 in cc
conv_found (suc levels) f at left found is =
    conv_by_found (conv levels f) (IsConversion levels f) (λ a rest inner inner_is. conv_found levels f a rest inner inner_is) f at left found is

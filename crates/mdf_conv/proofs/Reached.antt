-- Texts, sources and conversions that stand are found, where what is left is enough.
use Rattle.std.proofs.Common.{◌≡◌, ◌≢◌, ◌+◌, ◌-◌, ◌≤◌, ℕ, zero, suc, false, List, [], ◌∷◌, length, Ok, refl, sym, ◌∙◌, ap, subst, inl, inr, arith}
use Rattle.std.proofs.lemmas.Bool.{eq-eqb, ne_eqb, cond-true, cond-false, false_from_ne_true}
use Rattle.std.proofs.lemmas.Slice.Eq.{bytes_eq-Decides}
use Rattle.std.specs.Prelude.{nat_eq}
use Rattle.mdf_format.specs.Number.{bytes_at}
use Rattle.mdf_format.specs.Block.{name_of, link_at, links_at, body_at, IsBlock}
use Rattle.mdf_format.specs.declared.kind.Kind.TheVariants.{Cc, Si}
use Rattle.mdf_block.specs.declared.place.BlockAt.{BlockAt}
use Rattle.mdf_block.specs.declared.note.Note.{Note}
use Rattle.mdf_block.specs.declared.note.Note.TheVariants as notes
use Rattle.mdf_block.specs.Refusal.{Read, ◌>>=◌}
use Rattle.mdf_block.specs.Block.{block, the_block, is_named}
use Rattle.mdf_block.specs.Text.{note_size, IsNote}
use Rattle.mdf_block.specs.Each.{each}
use Rattle.mdf_block.proofs.Reached.{note_reached}
use Rattle.mdf_block.proofs.Wholes.{block_some}
use Rattle.mdf_conv.specs.declared.limits.Budget.{Budget}
use Rattle.mdf_conv.specs.declared.row.SourceInfo.{SourceInfo}
use Rattle.mdf_conv.specs.declared.row.Conversion.{Conversion}
use Rattle.mdf_conv.specs.declared.row.Ref.{Ref}
use Rattle.mdf_conv.specs.declared.row.Ref.TheVariants as refs
use Rattle.mdf_conv.specs.declared.texts.Texts.{Texts}
use Rattle.mdf_conv.specs.Left.{with_dropped, link_count}
use Rattle.mdf_conv.specs.Conv.{words, block_size, without, counted, source, texts, ref_by, item_by, conv_of_block, conv_by, conv}
use Rattle.mdf_conv.specs.Cost.{Cost, both, source_cost, bytes_of_texts, text_size, ref_cost, refs_cost, own_cost, conv_cost}
use Rattle.mdf_conv.specs.Standing.{IsSource, IsRefBy, AreRefsBy, IsConversionBy, IsConversion}
use Rattle.mdf_conv.proofs.Costs.{Costs, size_is, ref_falls, conv_falls}
use Rattle.mdf_conv.proofs.Uniques.{cc_is_not_tx, cc_is_not_md, conv_block}

-- so many bytes of texts less may come
abbrev pub less_text : ℕ → Budget → Budget
less_text size left = record left { text = left.text - size }

pub words_reached : (f : List ℕ) (at : ℕ) (left : Budget) (found : Note) → IsNote f at found → note_size found ≤ left.text
    → words f at left ≡ Ok (found, less_text (note_size found) left)
unfolding words
words_reached f at left found is short =
    ap (λ (read : Read (Note × ℕ)). read >>= λ text. Ok (text.0, record left { text = text.1 })) (note_reached f at left.text found is short)

-- what is left is enough for a cost
pub record IsEnough (cost : Cost) (left : Budget) : Type 0 where
  pub text : cost.text ≤ left.text
  pub conversions : cost.conversions ≤ left.conversions

-- the texts of a source or of a conversion
abbrev behind_texts : Texts → Budget → Budget
behind_texts found left = less_text (note_size found.comment) (less_text (note_size found.unit) (less_text (note_size found.name) left))

texts_reached : (f : List ℕ) (at : ℕ) (left : Budget) (found : Texts) → IsNote f (link_at f at 0) found.name
    → IsNote f (link_at f at 1) found.unit → IsNote f (link_at f at 2) found.comment
    → note_size found.name + note_size found.unit + note_size found.comment ≤ left.text
    → texts f at left ≡ Ok (found, behind_texts found left)
unfolding texts
texts_reached f at left found name unit comment short =
    let one = less_text (note_size found.name) left in
    let two = less_text (note_size found.unit) one in
    let first = words_reached f (link_at f at 0) left found.name name (omega (arith, short)) in
    let second = words_reached f (link_at f at 1) one found.unit unit (omega (arith, short)) in
    let third = words_reached f (link_at f at 2) two found.comment comment (omega (arith, short)) in
    rw (first, second, third) refl

-- a source
pub source_reached : (f : List ℕ) (at : ℕ) (left : Budget) (found : SourceInfo) → IsSource f at found → IsEnough (source_cost found) left
    → (rest : Budget) × (source f at left ≡ Ok (found, rest))
unfolding source
source_reached f at left found is enough =
    let given : Texts = record { name = found.name; unit = found.path; comment = found.comment } in
    let first = block_some f at Si refl is.block in
    let second = texts_reached f at left given is.name is.path is.comment enough.text in
    (behind_texts given left, rw (first, second) (ap (λ (s : SourceInfo). Ok (s, behind_texts given left)) (sym is.fields)))

-- a text is no conversion
no_conv : (f : List ℕ) (at : ℕ) (note : Note) → at ≢ 0 → IsNote f at note → is_named f at Cc ≡ false
no_conv f at notes.Nothing some is = absurd (some is)
no_conv f at (notes.Plain bytes) some is = false_from_ne_true (is_named f at Cc)
    (λ yes. cc_is_not_tx (sym ((bytes_eq-Decides (bytes_at 4 f at) (name_of Cc)).0 yes) ∙ is.1.named))
no_conv f at (notes.Xml bytes) some is = false_from_ne_true (is_named f at Cc)
    (λ yes. cc_is_not_md (sym ((bytes_eq-Decides (bytes_at 4 f at) (name_of Cc)).0 yes) ∙ is.1.named))

-- where `inner` finds what `IsConv` says, at the cost that `cost` says
module _ (f : List ℕ) (inner : ℕ → Budget → Read (Conversion × Budget)) (IsConv : ℕ → Conversion → Type 0) (cost : ℕ → Cost) (costs : Costs inner cost)
    (stands : (at : ℕ) (conversion : Conversion) → IsConv at conversion → IsBlock f at Cc)
    (reached : (at : ℕ) (left : Budget) (conversion : Conversion) → IsConv at conversion → IsEnough (cost at) left
    → (rest : Budget) × (inner at left ≡ Ok (conversion, rest))) where
  ref_reached : (at : ℕ) (left : Budget) (found : Ref) → IsRefBy IsConv f at found → IsEnough (ref_cost cost f at) left
      → (rest : Budget) × (ref_by inner f at left ≡ Ok (found, rest))
  unfolding ref_by ref_cost
  ref_reached at left found (inl none) enough =
      (left, cond-true (nat_eq at 0) _ _ (eq-eqb at 0 none.0) ∙ ap (λ (r : Ref). Ok (r, left)) (sym none.1))
  ref_reached at left found (inr (inl text)) enough =
      let note = text.1.0 in
      let some = ne_eqb at 0 text.0 in
      let other = no_conv f at note text.0 text.1.2 in
      let cost_is : ref_cost cost f at ≡ bytes_of_texts (text_size f at) = cond-false (nat_eq at 0) _ _ some ∙ cond-false (is_named f at Cc) _ _ other in
      let size : note_size note ≡ text_size f at = size_is f at note text.1.2 in
      let enough_is : IsEnough (bytes_of_texts (text_size f at)) left = subst (λ (c : Cost). IsEnough c left) cost_is enough in
      let read = words_reached f at left note text.1.2 (omega (arith, size, enough_is.text)) in (
        less_text (note_size note) left,
        cond-false (nat_eq at 0) _ _ some
            ∙ cond-false (is_named f at Cc) _ _ other
            ∙ ap (λ (y : Read (Note × Budget)). y >>= λ given. Ok (refs.Words given.0, given.1)) read
            ∙ ap (λ (r : Ref). Ok (r, less_text (note_size note) left)) (sym text.1.1),
      )
  ref_reached at left found (inr (inr conv)) enough =
      let some = ne_eqb at 0 conv.0 in
      let named = (bytes_eq-Decides (bytes_at 4 f at) (name_of Cc)).1 (stands at conv.1.0 conv.1.2).named in
      let cost_is : ref_cost cost f at ≡ cost at = cond-false (nat_eq at 0) _ _ some ∙ cond-true (is_named f at Cc) _ _ named in
      let read = reached at left conv.1.0 conv.1.2 (subst (λ (c : Cost). IsEnough c left) cost_is enough) in (
        read.0,
        cond-false (nat_eq at 0) _ _ some
            ∙ cond-true (is_named f at Cc) _ _ named
            ∙ ap (λ (y : Read (Conversion × Budget)). y >>= λ given. Ok (refs.Conv given.0, given.1)) read.1
            ∙ ap (λ (r : Ref). Ok (r, read.0)) (sym conv.1.1),
      )

  refs_reached : (at k count : ℕ) (left : Budget) (found : List Ref) → AreRefsBy IsConv f at k found → length found ≡ count
      → IsEnough (refs_cost cost f at k count) left → (rest : Budget) × (each (item_by inner f at) k count left ≡ Ok (found, rest))
  unfolding each refs_cost
  refs_reached at k zero left [] are long enough = (left, refl)
  refs_reached at k zero left (first ∷ found) are long enough = absurd (omega (arith, long))
  refs_reached at k (suc count) left [] are long enough = absurd (omega (arith, long))
  refs_reached at k (suc count) left (first ∷ found) are long enough =
      let here = ref_cost cost f (link_at f at k) in
      let behind = refs_cost cost f at (k + 1) count in
      let one = ref_reached (link_at f at k) left first are.0
      (record { text = omega (arith, enough.text); conversions = omega (arith, enough.conversions) }) in
      let falls = ref_falls inner cost costs f (link_at f at k) left (first, one.0) one.1 in
      let rest = refs_reached at (k + 1) count one.0 found are.1 (omega (arith, long))
      (record { text = omega (arith, enough.text, falls.text); conversions = omega (arith, enough.conversions, falls.conversions) }) in
      (rest.0, rw (one.1, rest.1) refl)

  conv_by_reached : (at : ℕ) (left : Budget) (found : Conversion) → IsConversionBy IsConv f at found
      → IsEnough (both (own_cost f at) (refs_cost cost f at 4 (links_at f at - 4))) left
      → (rest : Budget) × (conv_by inner f at left ≡ Ok (found, rest))
  unfolding conv_by conv_of_block counted
  conv_by_reached at left found is enough =
      let b = the_block f at Cc in
      let given = is.texts in
      let name = size_is f (link_at f at 0) given.name is.name in
      let unit = size_is f (link_at f at 1) given.unit is.unit in
      let comment = size_is f (link_at f at 2) given.comment is.comment in
      let one = without (block_size b) left in
      let two = behind_texts given one in
      let first = block_some f at Cc refl is.block in
      let some : nat_eq left.conversions 0 ≡ false = ne_eqb left.conversions 0 (λ none. omega (arith, none, enough.conversions)) in
      let second : counted at (block_size b) left ≡ Ok one = cond-false (nat_eq left.conversions 0) _ _ some in
      let third = texts_reached f at one given is.name is.unit is.comment (omega (arith, enough.text, name, unit, comment)) in
      let fourth = refs_reached at 4 (links_at f at - 4) two is.references is.each (omega (arith, is.count))
      (record { text = omega (arith, enough.text, name, unit, comment); conversions = omega (arith, enough.conversions) }) in
      let rest = with_dropped (link_count (link_at f at 3)) fourth.0 in
      (rest, rw (first, second, third, fourth.1) (ap (λ (c : Conversion). Ok (c, rest)) (sym is.fields)))

-- a conversion
pub conv_reached : (levels : ℕ) (f : List ℕ) (at : ℕ) (left : Budget) (found : Conversion) → IsConversion levels f at found
    → IsEnough (conv_cost levels f at) left → (rest : Budget) × (conv levels f at left ≡ Ok (found, rest))
unfolding conv conv_cost IsConversion
conv_reached zero f at left found is enough = absurd is
conv_reached (suc levels) f at left found is enough =
    conv_by_reached f (conv levels f) (IsConversion levels f) (conv_cost levels f) (λ a rest inner inner_is. conv_falls levels f a rest inner inner_is)
    (λ a conversion stands. conv_block levels f a conversion stands)
    (λ a rest conversion stands short. conv_reached levels f a rest conversion stands short) at left found is enough

-- What is read costs what the definitions say.
use Rattle.std.proofs.Common.{◌≡◌, ◌≢◌, ◌+◌, ◌-◌, ◌^◌, ◌≤◌, ℕ, zero, suc, List, [], length, Ok, Err, refl, sym, ◌∙◌, ap, subst, inl, inr, arith}
use Rattle.std.specs.Prelude.{min, nat_eq, cond}
use Rattle.std.proofs.lemmas.Bool.{eqb-false, eq-eqb, ne_eqb, cond-true, cond-false}
use Rattle.mdf_format.specs.Block.{link_at, links_at}
use Rattle.mdf_format.specs.declared.kind.Kind.TheVariants.{Cc, Si}
use Rattle.mdf_block.specs.declared.what.What.TheVariants as whats
use Rattle.mdf_block.specs.declared.place.BlockAt.{BlockAt}
use Rattle.mdf_block.specs.declared.note.Note.{Note}
use Rattle.mdf_block.specs.declared.note.Note.TheVariants as notes
use Rattle.mdf_block.specs.Refusal.{Read, TooMany, Deep, ◌>>=◌}
use Rattle.mdf_block.specs.Block.{block, is_named}
use Rattle.mdf_block.specs.Text.{note, note_size, IsNote}
use Rattle.mdf_block.specs.Each.{each}
use Rattle.mdf_block.proofs.Refusals.{bind_ok}
use Rattle.mdf_block.proofs.Wholes.{chosen, block_found}
use Rattle.mdf_block.proofs.Notes.{note_found}
use Rattle.mdf_conv.specs.declared.limits.Budget.{Budget}
use Rattle.mdf_conv.specs.declared.row.SourceInfo.{SourceInfo}
use Rattle.mdf_conv.specs.declared.row.Conversion.{Conversion}
use Rattle.mdf_conv.specs.declared.row.Ref.{Ref}
use Rattle.mdf_conv.specs.declared.row.Ref.TheVariants as refs
use Rattle.mdf_conv.specs.declared.texts.Texts.{Texts}
use Rattle.mdf_conv.specs.Left.{with_dropped, link_count}
use Rattle.mdf_conv.specs.Conv.{words, block_size, without, counted, source, texts, ref_by, item_by, conv_of_block, conv_by, conv}
use Rattle.mdf_conv.specs.Cost.{Cost, nothing, both, bytes_of_texts, dropped_links, note_cost, source_cost, text_size, ref_cost, refs_cost, own_cost, conv_cost, Spends}
use Rattle.mdf_conv.proofs.Founds.{ok_injective, words_found, texts_found}

-- the budget falls by the cost, where the count of dropped links fits
pub record Falls (left : Budget) (cost : Cost) (rest : Budget) : Type 0 where
  pub text : rest.text + cost.text ≡ left.text
  pub conversions : rest.conversions + cost.conversions ≡ left.conversions
  pub dropped : left.dropped ≤ 2 ^ 64 - 1 → rest.dropped ≡ min (left.dropped + cost.dropped) (2 ^ 64 - 1)

pub spends : (left : Budget) (cost : Cost) (rest : Budget) → Falls left cost rest → left.dropped ≤ 2 ^ 64 - 1 → Spends left cost rest
spends left cost rest falls fits = record { text = falls.text; conversions = falls.conversions; dropped = falls.dropped fits }

count_stays : (m a : ℕ) → a ≤ m → a ≡ min (a + 0) m
count_stays m a fits = omega (arith, fits)

pub falls_not : (left : Budget) → Falls left nothing left
falls_not left = record {
  text = omega arith;
  conversions = omega arith;
  dropped = λ fits. count_stays (2 ^ 64 - 1) left.dropped fits;
}

counts_join : (m a x b y c : ℕ) → b ≡ min (a + x) m → (b ≤ m → c ≡ min (b + y) m) → c ≡ min (a + (x + y)) m
counts_join m a x b y c first second =
    let fits : b ≤ m = omega (arith, first) in
    let last = second fits in
    omega (arith, first, last)

pub falls_both : (left : Budget) (one : Cost) (middle : Budget) (other : Cost) (rest : Budget) → Falls left one middle → Falls middle other rest
    → Falls left (both one other) rest
falls_both left one middle other rest first second = record {
  text = omega (arith, first.text, second.text);
  conversions = omega (arith, first.conversions, second.conversions);
  dropped = λ fits. counts_join (2 ^ 64 - 1) left.dropped one.dropped middle.dropped other.dropped rest.dropped (first.dropped fits) second.dropped;
}

-- the same cost in other words
pub falls_as : (left : Budget) (cost other : Cost) (rest : Budget) → Falls left cost rest → cost.text ≡ other.text
    → cost.conversions ≡ other.conversions → cost.dropped ≡ other.dropped → Falls left other rest
falls_as left cost other rest falls text conversions dropped = record {
  text = ap (λ (n : ℕ). rest.text + n) (sym text) ∙ falls.text;
  conversions = ap (λ (n : ℕ). rest.conversions + n) (sym conversions) ∙ falls.conversions;
  dropped = λ fits. falls.dropped fits ∙ ap (λ (n : ℕ). min (left.dropped + n) (2 ^ 64 - 1)) dropped;
}

-- links are passed over
pub falls_dropped : (left : Budget) (links : ℕ) → Falls left (dropped_links links) (with_dropped links left)
falls_dropped left links = record {
  text = omega arith;
  conversions = omega arith;
  dropped = λ fits. refl;
}

-- a text
pub words_falls : (f : List ℕ) (at : ℕ) (left : Budget) (found : Note × Budget) → words f at left ≡ Ok found → Falls left (note_cost found.0) found.1
unfolding words
words_falls f at left found is =
    let text = bind_ok (note f at left.text) _ found is in
    let there = note_found f at left.text text.0.0 text.0.1 text.1 in
    let kept = falls_not left in
    let whole : Falls left (note_cost text.0.0) (record left { text = text.0.1 }) = record {
      text = there.1;
      conversions = kept.conversions;
      dropped = kept.dropped;
    } in
    subst (λ (y : Note × Budget). Falls left (note_cost y.0) y.1) (ok_injective _ _ text.2) whole

-- a text is as long as what stands where the link leads
pub size_is : (f : List ℕ) (at : ℕ) (found : Note) → IsNote f at found → note_size found ≡ text_size f at
size_is f at notes.Nothing is = sym (cond-true (nat_eq at 0) 0 _ (eq-eqb at 0 is))
size_is f at (notes.Plain bytes) is = ap length is.2 ∙ sym (cond-false (nat_eq at 0) 0 _ (ne_eqb at 0 is.0))
size_is f at (notes.Xml bytes) is = ap length is.2 ∙ sym (cond-false (nat_eq at 0) 0 _ (ne_eqb at 0 is.0))

text_falls : (f : List ℕ) (at : ℕ) (left : Budget) (found : Note × Budget) → words f at left ≡ Ok found
    → Falls left (bytes_of_texts (text_size f at)) found.1
text_falls f at left found is =
    subst (λ (n : ℕ). Falls left (bytes_of_texts n) found.1) (size_is f at found.0 (words_found f at left found is)) (words_falls f at left found is)

-- three texts
three_fall : (left : Budget) (a b c : ℕ) (one two rest : Budget) → Falls left (bytes_of_texts a) one → Falls one (bytes_of_texts b) two
    → Falls two (bytes_of_texts c) rest → Falls left (bytes_of_texts (a + b + c)) rest
three_fall left a b c one two rest first second third =
    falls_both left (bytes_of_texts (a + b)) two (bytes_of_texts c) rest
    (falls_both left (bytes_of_texts a) one (bytes_of_texts b) two first second) third

sizes_fall : (f : List ℕ) (at : ℕ) (left : Budget) (found : Texts × Budget) → texts f at left ≡ Ok found
    → Falls left (bytes_of_texts (note_size found.0.name + note_size found.0.unit + note_size found.0.comment)) found.1
unfolding texts
sizes_fall f at left found is =
    let name = bind_ok (words f (link_at f at 0) left) _ found is in
    let unit = bind_ok (words f (link_at f at 1) name.0.1) _ found name.2 in
    let comment = bind_ok (words f (link_at f at 2) unit.0.1) _ found unit.2 in
    subst (λ (y : Texts × Budget). Falls left (bytes_of_texts (note_size y.0.name + note_size y.0.unit + note_size y.0.comment)) y.1)
    (ok_injective _ _ comment.2)
    (three_fall left _ _ _ name.0.1 unit.0.1 comment.0.1 (words_falls f _ left name.0 name.1) (words_falls f _ name.0.1 unit.0 unit.1)
    (words_falls f _ unit.0.1 comment.0 comment.1))

-- a source
pub source_falls : (f : List ℕ) (at : ℕ) (left : Budget) (found : SourceInfo × Budget) → source f at left ≡ Ok found
    → Falls left (source_cost found.0) found.1
unfolding source
source_falls f at left found is =
    let first = bind_ok (block f at Si) _ found is in
    let given = bind_ok (texts f first.0.at left) _ found first.2 in
    subst (λ (y : SourceInfo × Budget). Falls left (source_cost y.0) y.1) (ok_injective _ _ given.2)
    (sizes_fall f first.0.at left given.0 given.1)

abbrev three_texts : List ℕ → ℕ → ℕ
three_texts f at = text_size f (link_at f at 0) + text_size f (link_at f at 1) + text_size f (link_at f at 2)

texts_fall : (f : List ℕ) (at : ℕ) (left : Budget) (found : Texts × Budget) → texts f at left ≡ Ok found
    → Falls left (bytes_of_texts (three_texts f at)) found.1
texts_fall f at left found is =
    let are = texts_found f at left found is in
    let sizes : note_size found.0.name + note_size found.0.unit + note_size found.0.comment ≡ three_texts f at =
    rw (size_is f _ found.0.name are.name, size_is f _ found.0.unit are.unit, size_is f _ found.0.comment are.comment) refl in
    subst (λ (n : ℕ). Falls left (bytes_of_texts n) found.1) sizes (sizes_fall f at left found is)

-- one conversion
abbrev one_conversion : Cost
one_conversion = record { text = 0; conversions = 1; dropped = 0 }

one_less : (n : ℕ) → n ≢ 0 → n - 1 + 1 ≡ n
one_less n some = omega (arith, some)

counted_falls : (at size : ℕ) (left found : Budget) → counted at size left ≡ Ok found → Falls left one_conversion found
unfolding counted
counted_falls at size left found is =
    let less : Budget = without size left in
    elim (chosen (nat_eq left.conversions 0) (Err (TooMany whats.Cc at)) (Ok less) (Ok found) is) [
      | inl none ↦ let wrong : ◌≡◌ {A = Read Budget} (Err (TooMany whats.Cc at)) (Ok found) = none.1 in cc
      | inr some ↦
          let some_is = eqb-false left.conversions 0 some.0 in
          let kept = falls_not left in
          subst (Falls left one_conversion) (ok_injective less found some.1)
          (record { text = kept.text; conversions = one_less left.conversions some_is; dropped = kept.dropped })
    ]

-- what `inner` finds costs what `cost` says
abbrev pub Costs : (ℕ → Budget → Read (Conversion × Budget)) → (ℕ → Cost) → Type 0
Costs inner cost = (at : ℕ) (left : Budget) (found : Conversion × Budget) → inner at left ≡ Ok found → Falls left (cost at) found.1

abbrev as_conv : Conversion × Budget → Read (Ref × Budget)
as_conv found = Ok (refs.Conv found.0, found.1)

abbrev as_words : Note × Budget → Read (Ref × Budget)
as_words found = Ok (refs.Words found.0, found.1)

module _ (inner : ℕ → Budget → Read (Conversion × Budget)) (cost : ℕ → Cost) (costs : Costs inner cost) (f : List ℕ) where
  pub ref_falls : (at : ℕ) (left : Budget) (found : Ref × Budget) → ref_by inner f at left ≡ Ok found → Falls left (ref_cost cost f at) found.1
  unfolding ref_by ref_cost
  ref_falls at left found is =
      let otherwise : Cost = cond (is_named f at Cc) (cost at) (bytes_of_texts (text_size f at)) in
      elim (chosen (nat_eq at 0) (Ok (refs.Nothing, left)) (cond (is_named f at Cc) (inner at left >>= as_conv) (words f at left >>= as_words)) (Ok found) is) [
        | inl none ↦
            let whole : Falls left nothing found.1 = subst (λ (y : Ref × Budget). Falls left nothing y.1) (ok_injective _ _ none.1) (falls_not left) in
            subst (λ (c : Cost). Falls left c found.1) (sym (cond-true (nat_eq at 0) nothing otherwise none.0)) whole
        | inr some ↦
            let within : Falls left otherwise found.1 =
            elim (chosen (is_named f at Cc) (inner at left >>= as_conv) (words f at left >>= as_words) (Ok found) some.1) [
              | inl named ↦
                  let parts = bind_ok (inner at left) as_conv found named.1 in
                  let whole : Falls left (cost at) found.1 =
                  subst (λ (y : Ref × Budget). Falls left (cost at) y.1) (ok_injective _ _ parts.2) (costs at left parts.0 parts.1) in
                  subst (λ (c : Cost). Falls left c found.1) (sym (cond-true (is_named f at Cc) (cost at) (bytes_of_texts (text_size f at)) named.0)) whole
              | inr other ↦
                  let parts = bind_ok (words f at left) as_words found other.1 in
                  let whole : Falls left (bytes_of_texts (text_size f at)) found.1 =
                  subst (λ (y : Ref × Budget). Falls left (bytes_of_texts (text_size f at)) y.1) (ok_injective _ _ parts.2)
                  (text_falls f at left parts.0 parts.1) in
                  subst (λ (c : Cost). Falls left c found.1) (sym (cond-false (is_named f at Cc) (cost at) (bytes_of_texts (text_size f at)) other.0)) whole
            ] in
            subst (λ (c : Cost). Falls left c found.1) (sym (cond-false (nat_eq at 0) nothing otherwise some.0)) within
      ]

  refs_fall : (at k count : ℕ) (left : Budget) (found : List Ref × Budget) → each (item_by inner f at) k count left ≡ Ok found
      → Falls left (refs_cost cost f at k count) found.1
  unfolding each refs_cost
  refs_fall at k zero left found is =
      subst (λ (y : List Ref × Budget). Falls left nothing y.1) (ok_injective ([], left) found is) (falls_not left)
  refs_fall at k (suc count) left found is =
      let first = bind_ok (item_by inner f at k left) _ found is in
      let rest = bind_ok (each (item_by inner f at) (k + 1) count first.0.1) _ found first.2 in
      let here = ref_cost cost f (link_at f at k) in
      let behind = refs_cost cost f at (k + 1) count in
      subst (λ (y : List Ref × Budget). Falls left (both here behind) y.1) (ok_injective _ _ rest.2)
      (falls_both left here first.0.1 behind rest.0.1
      (ref_falls (link_at f at k) left first.0 first.1) (refs_fall at (k + 1) count first.0.1 rest.0 rest.1))

  conv_by_falls : (at : ℕ) (left : Budget) (found : Conversion × Budget) → conv_by inner f at left ≡ Ok found
      → Falls left (both (own_cost f at) (refs_cost cost f at 4 (links_at f at - 4))) found.1
  unfolding conv_by conv_of_block
  conv_by_falls at left found is =
      let first = bind_ok (block f at Cc) _ found is in
      let here = block_found f at Cc first.0 first.1 in
      let one = bind_ok (counted at (block_size first.0) left) _ found first.2 in
      let named = bind_ok (texts f first.0.at one.0) _ found one.2 in
      let given = bind_ok (each (item_by inner f first.0.at) 4 (first.0.links - 4) named.0.1) _ found named.2 in
      let bytes = three_texts f first.0.at in
      let inverse = link_count (link_at f first.0.at 3) in
      let rows = refs_cost cost f first.0.at 4 (first.0.links - 4) in
      let texts_cost : Cost = both one_conversion (bytes_of_texts bytes) in
      let after_texts : Falls left texts_cost named.0.1 =
      falls_both left one_conversion one.0 (bytes_of_texts bytes) named.0.1 (counted_falls at (block_size first.0) left one.0 one.1)
      (texts_fall f first.0.at one.0 named.0 named.1) in
      let after_refs : Falls left (both texts_cost rows) given.0.1 =
      falls_both left texts_cost named.0.1 rows given.0.1 after_texts (refs_fall first.0.at 4 (first.0.links - 4) named.0.1 given.0 given.1) in
      let all : Falls left (both (both texts_cost rows) (dropped_links inverse)) (with_dropped inverse given.0.1) =
      falls_both left (both texts_cost rows) given.0.1 (dropped_links inverse) (with_dropped inverse given.0.1) after_refs
      (falls_dropped given.0.1 inverse) in
      let own : Cost = record { text = bytes; conversions = 1; dropped = inverse } in
      let sorted : Falls left (both own rows) (with_dropped inverse given.0.1) =
      falls_as left (both (both texts_cost rows) (dropped_links inverse)) (both own rows) (with_dropped inverse given.0.1) all (omega arith)
      (omega arith) (omega arith) in
      let last : with_dropped inverse given.0.1 ≡ found.1 = ap (λ (y : Conversion × Budget). y.1) (ok_injective _ _ given.2) in
      let whole : Falls left (both own rows) found.1 = subst (Falls left (both own rows)) last sorted in
      subst (λ (b : BlockAt). Falls left (both (own_cost f b.at) (refs_cost cost f b.at 4 (b.links - 4))) found.1) here.1 whole

-- a conversion
pub conv_falls : (levels : ℕ) (f : List ℕ) (at : ℕ) (left : Budget) (found : Conversion × Budget) → conv levels f at left ≡ Ok found
    → Falls left (conv_cost levels f at) found.1
unfolding conv conv_cost
conv_falls zero f at left found is =
    let parts = bind_ok (block f at Cc) (λ _. Err (Deep at)) found is in
    let wrong : ◌≡◌ {A = Read (Conversion × Budget)} (Err (Deep at)) (Ok found) = parts.2 in cc
conv_falls (suc levels) f at left found is =
    conv_by_falls (conv levels f) (conv_cost levels f) (λ a rest inner inner_is. conv_falls levels f a rest inner inner_is) f at left found is

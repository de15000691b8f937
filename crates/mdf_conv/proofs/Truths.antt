-- What the readers of texts, sources and conversions refuse is true of the file.
use Rattle.std.proofs.Common.{◌-◌, ◌≤◌, ◌<◌, ◌⊎◌, ℕ, zero, suc, List, Option, Some, None, refl, sym, subst, inl, inr, arith}
use Rattle.std.specs.Prelude.{nat_eq, IfSome}
use Rattle.mdf_format.specs.Block.{link_at, links_at, IsBlock}
use Rattle.mdf_format.specs.declared.kind.Kind.TheVariants.{Cc, Si}
use Rattle.mdf_block.specs.declared.what.What.TheVariants as whats
use Rattle.mdf_block.specs.declared.place.BlockAt.{BlockAt}
use Rattle.mdf_block.specs.Refusal.{Refusal, Read, TooMany, Deep, Refuses}
use Rattle.mdf_block.specs.Block.{block, the_block, is_named}
use Rattle.mdf_block.specs.Text.{note}
use Rattle.mdf_block.specs.Each.{each}
use Rattle.mdf_block.specs.Truth.{AreOpen, IsTrueOf}
use Rattle.mdf_block.proofs.Wholes.{block_found}
use Rattle.mdf_block.proofs.Truths.{Refusing, refusing_none, refusing_one, refusing_then, refusing_if, refusing_as, refusing_range, block_true, note_true}
use Rattle.mdf_conv.specs.declared.limits.Budget.{Budget}
use Rattle.mdf_conv.specs.declared.row.Conversion.{Conversion}
use Rattle.mdf_conv.specs.Conv.{words, block_size, counted, source, texts, ref_by, item_by, conv_of_block, conv_by, conv, conversion}

-- all that it refuses is true of the file
abbrev pub Honest : {A : Type 0} → List ℕ → Read A → Type 0
Honest f read = Refusing (IsTrueOf f) read

pub words_true : (f : List ℕ) (at : ℕ) (left : Budget) → Honest f (words f at left)
unfolding words
words_true f at left = refusing_then (IsTrueOf f) (note f at left.text) _ (note_true f at left.text) (λ text _. refusing_none (IsTrueOf f) _)

texts_true : (f : List ℕ) (at : ℕ) (left : Budget) → Honest f (texts f at left)
unfolding texts
texts_true f at left =
    refusing_then (IsTrueOf f) (words f (link_at f at 0) left) _ (words_true f _ left) (λ name _.
    refusing_then (IsTrueOf f) (words f (link_at f at 1) name.1) _ (words_true f _ name.1) (λ unit _.
    refusing_then (IsTrueOf f) (words f (link_at f at 2) unit.1) _ (words_true f _ unit.1) (λ comment _. refusing_none (IsTrueOf f) _)))

pub source_true : (f : List ℕ) (at : ℕ) (left : Budget) → Honest f (source f at left)
unfolding source
source_true f at left =
    refusing_then (IsTrueOf f) (block f at Si) _ (block_true f at Si (λ none. none)) (λ b _.
    refusing_then (IsTrueOf f) (texts f b.at left) _ (texts_true f b.at left) (λ given _. refusing_none (IsTrueOf f) _))

counted_true : (f : List ℕ) (at size : ℕ) (left : Budget) → IsBlock f at Cc → Honest f (counted at size left)
unfolding counted
counted_true f at size left is =
    refusing_if (IsTrueOf f) (nat_eq left.conversions 0) _ _ (λ _. refusing_one (IsTrueOf f) (TooMany whats.Cc at) (is, tt))
    (λ _. refusing_none (IsTrueOf f) _)

-- a conversion that lies too deep, so many conversions below an address
abbrev IsDeepBelow : List ℕ → ℕ → ℕ → Refusal → Type 0
IsDeepBelow f levels at (Deep place) = IsBlock f place Cc × AreOpen f levels at place
IsDeepBelow f levels at _ = ⊥

-- a refusal is true, or it is of a conversion that lies too deep below the address
abbrev IsTrueBelow : List ℕ → ℕ → ℕ → Refusal → Type 0
IsTrueBelow f levels at refusal = IsTrueOf f refusal ⊎ IsDeepBelow f levels at refusal

abbrev HonestBelow : {A : Type 0} → List ℕ → ℕ → ℕ → Read A → Type 0
HonestBelow f levels at read = Refusing (IsTrueBelow f levels at) read

below : {A : Type 0} (f : List ℕ) (levels at : ℕ) (read : Read A) → Honest f read → HonestBelow f levels at read
below f levels at read honest = refusing_as (IsTrueOf f) (IsTrueBelow f levels at) read (λ refusal holds. inl holds) honest

one_above : (f : List ℕ) (levels at k : ℕ) → IsBlock f at Cc → 4 ≤ k → k < links_at f at → (refusal : Refusal)
    → IsTrueBelow f levels (link_at f at k) refusal → IsTrueBelow f (suc levels) at refusal
unfolding AreOpen
one_above f levels at k is after within refusal (inl holds) = inl holds
one_above f levels at k is after within (Deep place) (inr deep) = inr (deep.0, (is, (k, after, within, deep.1)))
one_above f levels at k is after within _ (inr deep) = absurd deep

module _ (f : List ℕ) (levels : ℕ) (inner : ℕ → Budget → Read (Conversion × Budget))
    (honest : (at : ℕ) (left : Budget) → HonestBelow f levels at (inner at left)) where
  ref_true : (at : ℕ) (left : Budget) → HonestBelow f levels at (ref_by inner f at left)
  unfolding ref_by
  ref_true at left =
      let P = IsTrueBelow f levels at in
      refusing_if P (nat_eq at 0) _ _ (λ _. refusing_none P _)
      (λ _. refusing_if P (is_named f at Cc) _ _
      (λ _. refusing_then P (inner at left) _ (honest at left) (λ found _. refusing_none P _))
      (λ _. refusing_then P (words f at left) _ (below f levels at (words f at left) (words_true f at left)) (λ found _. refusing_none P _)))

  conv_of_block_true : (at : ℕ) (left : Budget) → IsBlock f at Cc → HonestBelow f (suc levels) at (conv_of_block inner f (the_block f at Cc) left)
  unfolding conv_of_block
  conv_of_block_true at left is =
      let P = IsTrueBelow f (suc levels) at in
      let count = links_at f at - 4 in
      refusing_then P (texts f at left) _ (below f (suc levels) at (texts f at left) (texts_true f at left)) (λ words _.
      refusing_then P (each (item_by inner f at) 4 count words.1) _
      (refusing_range P (item_by inner f at) (λ k (rest : Budget). Unit {0}) (λ k before x rest read known. tt) 4 count words.1 tt (λ k rest after within known.
      refusing_as (IsTrueBelow f levels (link_at f at k)) P (item_by inner f at k rest)
      (one_above f levels at k is after (omega (arith, within, is.linked))) (ref_true (link_at f at k) rest)))
      (λ found _. refusing_none P _))

  conv_by_true : (at : ℕ) (left : Budget) → HonestBelow f (suc levels) at (conv_by inner f at left)
  unfolding conv_by
  conv_by_true at left =
      let P = IsTrueBelow f (suc levels) at in
      refusing_then P (block f at Cc) _ (below f (suc levels) at (block f at Cc) (block_true f at Cc (λ none. none))) (λ b found.
      let here = block_found f at Cc b found in
      refusing_then P (counted at (block_size b) left) _
      (below f (suc levels) at (counted at (block_size b) left) (counted_true f at (block_size b) left here.0)) (λ one _.
      subst (λ (c : BlockAt). Refusing P (conv_of_block inner f c one)) (sym here.1) (conv_of_block_true at one here.0)))

conv_below : (levels : ℕ) (f : List ℕ) (at : ℕ) (left : Budget) → HonestBelow f levels at (conv levels f at left)
unfolding conv AreOpen
conv_below zero f at left =
    let P = IsTrueBelow f 0 at in
    refusing_then P (block f at Cc) _ (below f 0 at (block f at Cc) (block_true f at Cc (λ none. none)))
    (λ b found. refusing_one P (Deep at) (inr ((block_found f at Cc b found).0, refl)))
conv_below (suc levels) f at left = conv_by_true f levels (conv levels f) (λ a rest. conv_below levels f a rest) at left

-- four conversions are open above one that lies too deep
told_open : (f : List ℕ) (at : ℕ) (refusal : Refusal) → IsTrueBelow f 4 at refusal → IsTrueOf f refusal
told_open f at refusal (inl holds) = holds
told_open f at (Deep place) (inr deep) = (deep.0, (at, deep.1))
told_open f at _ (inr deep) = absurd deep

pub conv_true : (f : List ℕ) (at : ℕ) (left : Budget) → Honest f (conversion f at left)
conv_true f at left = refusing_as (IsTrueBelow f 4 at) (IsTrueOf f) (conversion f at left) (told_open f at) (conv_below 4 f at left)

-- a fault of a reader that refuses with the truth
pub refuses_true : {A : Type 0} (f : List ℕ) (fault : Option Refusal) (read : Read A) → Honest f read → Refuses fault read
    → IfSome fault (IsTrueOf f)
refuses_true f None read honest refused = absurd refused
refuses_true f (Some refusal) read honest refused = honest.tells refusal refused

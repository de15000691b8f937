-- What caused a mark goes on to be its cause.
use Rattle.std.proofs.Common.{◌≡◌, ℕ, ◌+◌, ◌<◌, ◌≤◌, ◌⊎◌, Bool, true, List, [], ◌∷◌, ◌++◌, length, map, drop, set, fold, refl, sym, ap, ◌∙◌, subst, inl, inr, ⊎_elim, arith, append_assoc, append-nil}
use Rattle.std.specs.Prelude.{cond}
use Rattle.std.proofs.lemmas.Bool.{cases_eq, cond-true, eq-eqb, ne_eqb}
use Rattle.std.proofs.Math.Seq.{drop-append_seam}
use mathlib.Core.Option.{some}
use mathlib.Core.List.{IsPrefix}
use lib.ListN.{get_elem?}
use Rattle.mdf_gate.proofs.Carrying.{prefix_self}
use Rattle.mdf_layout.specs.Layout.{Layout}
use Rattle.mdf_layout.specs.declared.sample.Sample.{Sample}
use Rattle.book_owned.specs.FrontHalf.{FrontAccount}
use Rattle.book_owned.specs.Marks.{durable, last_mark}
use Rattle.book_owned.specs.declared.mark.Mark.{Mark}
use Rattle.book_shared.specs.Basis.{Basis, Held, holding}
use Rattle.book_shared.specs.Causes.{times_of, AreCaused, HandsOver, IsAmong, MarksCaused}
use Rattle.book_shared.specs.Plays.{marked_in, given, MakesMark}
use Rattle.book_shared.specs.Rule.{asks, AskedOf, DueOf}
use Rattle.book_shared.specs.declared.view.View.{View}
use Rattle.book_shared.proofs.Lists.{one_if}
use Rattle.book_shared.proofs.Sums.{total-set, term_le}
use Rattle.book_shared.proofs.Anys.{any_set, any_here}

pub times_of-append : (n : ℕ) (xs ys : List ℕ) → times_of n (xs ++ ys) ≡ times_of n xs + times_of n ys
times_of-append n [] ys = omega arith
times_of-append n (x ∷ xs) ys = omega (arith, times_of-append n xs ys)

counts_one : (n : ℕ) → 0 < times_of n (n ∷ [])
counts_one n = omega (arith, ap one_if (eq-eqb n n refl))

-- what stands among some and one more stands among them, or is that one
pub asked_one : (n m : ℕ) (xs : List ℕ) → 0 < times_of n (xs ++ m ∷ []) → (0 < times_of n xs) ⊎ (n ≡ m)
asked_one n m xs there = ⊎_elim
    (λ same. inr (sym same))
    (λ differs. inl (omega (arith, there, times_of-append n xs (m ∷ []), ap one_if (ne_eqb m n differs)))) (cases_eq m n)

-- a number does not stand where nothing does
pub none_asked : (n : ℕ) (xs : List ℕ) → (0 < length xs → ⊥) → times_of n xs ≡ 0
none_asked n [] none = refl
none_asked n (x ∷ xs) none = absurd (none (omega arith))

-- where more samples are due, and the history goes on
pub hands_later : (due due' : Sample → Type 0) (layouts : List Layout) (limit : ℕ) (history longer : List Sample) (from through : ℕ) → ((sample : Sample) → due sample → due' sample) → IsPrefix history longer
    → HandsOver due layouts limit history from through → HandsOver due' layouts limit longer from through
hands_later due due' layouts limit history longer from through goes (rest, is) hands = record {
  before = hands.before;
  next = hands.next;
  later = hands.later ++ rest;
  history_is = sym is ∙ ap (λ h. h ++ rest) hands.history_is ∙ append_assoc hands.before hands.later rest;
  through_is = hands.through_is;
  is_due = goes hands.next hands.is_due;
  passes = hands.passes;
  small = hands.small;
}

-- where more is asked for, and the history goes on
module _ (asked asked' : ℕ → Type 0) (due due' : Sample → Type 0) (layouts : List Layout) (limit : ℕ) (history longer : List Sample) (goes : (n : ℕ) → asked n → asked' n)
    (dues : (sample : Sample) → due sample → due' sample) (on : IsPrefix history longer) where
  are_later : (from : ℕ) (marks : List Mark) → AreCaused asked due layouts limit history from marks → AreCaused asked' due' layouts limit longer from marks
  are_later from [] are = tt
  are_later from (mark ∷ marks) are = (
    ⊎_elim (λ is. inl (goes mark.through is)) (λ hands. inr (hands_later due due' layouts limit history longer from mark.through dues on hands)) are.0,
    are_later mark.through marks are.1,
  )

  pub caused_later : (begun marks : List Mark) → MarksCaused asked due layouts limit history begun marks → MarksCaused asked' due' layouts limit longer begun marks
  caused_later begun marks is = record { more = is.more; marks_are = is.marks_are; caused = are_later (durable begun) is.more is.caused }

-- through how many samples the last mark goes, where the one before goes through so many
abbrev last_from : ℕ → List Mark → ℕ
last_from n [] = n
last_from n (mark ∷ marks) = last_from mark.through marks

fold_last : (first : Mark) (marks : List Mark) → (fold (λ before (mark : Mark). mark) first marks).through ≡ last_from first.through marks
fold_last first [] = refl
fold_last first (mark ∷ marks) = fold_last mark marks

last_append : (first : Mark) (xs ys : List Mark) → fold (λ before (mark : Mark). mark) first (xs ++ ys) ≡ fold (λ before (mark : Mark). mark) (fold (λ before (mark : Mark). mark) first xs) ys
last_append first [] ys = refl
last_append first (x ∷ xs) ys = last_append x xs ys

durable_last : (begun more : List Mark) → durable (begun ++ more) ≡ last_from (durable begun) more
durable_last begun more =
    let none : Mark = record { moment = 0; through = 0 } in
    ap (λ (m : Mark). m.through) (last_append none begun more) ∙ fold_last (last_mark begun) more

-- as many samples are durable as the last mark goes through
pub durable_last_of : (marks : List Mark) (mark : Mark) → durable (marks ++ mark ∷ []) ≡ mark.through
durable_last_of marks mark =
    let none : Mark = record { moment = 0; through = 0 } in ap (λ (m : Mark). m.through) (last_append none marks (mark ∷ []))

-- one mark more
module _ (asked : ℕ → Type 0) (due : Sample → Type 0) (layouts : List Layout) (limit : ℕ) (history : List Sample) where
  are_more : (from : ℕ) (marks : List Mark) (mark : Mark) → AreCaused asked due layouts limit history from marks → asked mark.through ⊎ HandsOver due layouts limit history (last_from from marks) mark.through
      → AreCaused asked due layouts limit history from (marks ++ mark ∷ [])
  are_more from [] mark are cause = (cause, tt)
  are_more from (first ∷ marks) mark are cause = (are.0, are_more first.through marks mark are.1 cause)

  pub caused_more : (begun marks : List Mark) (mark : Mark) → MarksCaused asked due layouts limit history begun marks → asked mark.through ⊎ HandsOver due layouts limit history (durable marks) mark.through
      → MarksCaused asked due layouts limit history begun (marks ++ mark ∷ [])
  caused_more begun marks mark is cause = record {
    more = is.more ++ mark ∷ [];
    marks_are = ap (λ ms. ms ++ mark ∷ []) is.marks_are ∙ append_assoc begun is.more (mark ∷ []);
    caused = are_more (durable begun) is.more mark is.caused
        (subst (λ n. asked mark.through ⊎ HandsOver due layouts limit history n mark.through) (ap durable is.marks_are ∙ durable_last begun is.more) cause);
  }

-- what was asked for when one seat has made a step
module _ (views : List View) (j : ℕ) (v u : View) (at : get_elem? views j ≡ some v) where
  pub asked_on : ((n : ℕ) → asks n v ≤ asks n u) → (n : ℕ) → AskedOf views n → AskedOf (set views j u) n
  asked_on more n is = omega (arith, total-set (asks n) views j v u at, more n, is)

  asked_here : (n : ℕ) → 0 < asks n u → AskedOf (set views j u) n
  asked_here n is = omega (arith, total-set (asks n) views j v u at, term_le (asks n) views j v at, is)

  -- and what was due
  pub due_on : ((sample : Sample) → IsAmong v.due sample → IsAmong u.due sample) → (sample : Sample) → DueOf views sample → DueOf (set views j u) sample
  due_on more sample is = any_set (λ (x : View). IsAmong x.due sample) views j v u at (more sample) is

  due_here : (sample : Sample) → IsAmong u.due sample → DueOf (set views j u) sample
  due_here sample is = any_here (λ (x : View). IsAmong x.due sample) views j v u at is

-- a turn that found so many marks and made one more, or none
module _ {V : Type 0} (held : Held) (front : FrontAccount V) where
  pub marked_once : (mark : Mark) → front.marks ≡ held.marks ++ mark ∷ [] → marked_in (holding held) front ≡ mark.through ∷ []
  marked_once mark made =
      ap (λ (ms : List Mark). map (λ (m : Mark). m.through) (drop (length held.marks) ms)) made
      ∙ ap (λ (ms : List Mark). map (λ (m : Mark). m.through) ms) (drop-append_seam held.marks (mark ∷ []))

  pub marked_none : front.marks ≡ held.marks → marked_in (holding held) front ≡ []
  marked_none same =
      ap (λ (ms : List Mark). map (λ (m : Mark). m.through) (drop (length held.marks) ms)) (same ∙ sym (append-nil held.marks))
      ∙ ap (λ (ms : List Mark). map (λ (m : Mark). m.through) ms) (drop-append_seam held.marks [])

-- how often a flush asked for the mark that it made
asks_made : {V : Type 0} (b : Bool) (v : View) (held : Held) (word : ℕ) (front : FrontAccount V) (mark : Mark) → b ≡ true → v.turn ≡ holding held
    → front.marks ≡ held.marks ++ mark ∷ [] → 0 < asks mark.through (given b v word front)
asks_made b v held word front mark asked turn_is made = omega (
  arith,
  times_of-append mark.through v.asked (cond b (marked_in v.turn front) []),
  ap (times_of mark.through) (cond-true b (marked_in v.turn front) [] asked ∙ ap (λ t. marked_in t front) turn_is ∙ marked_once held front mark made),
  counts_one mark.through,
)

module _ {V : Type 0} where
  -- the marks when a seat has given the front back
  pub given_marks : (asked_for : Bool) (basis : Basis) (history : List Sample) (views : List View) (j : ℕ) (v : View) (held : Held) (word : ℕ) (front : FrontAccount V) (added : List Sample)
      → get_elem? views j ≡ some v → v.basis ≡ basis → v.turn ≡ holding held → front.history ≡ history ++ added → MakesMark asked_for v.due v.basis.terms held front
      → MarksCaused (AskedOf views) (DueOf views) basis.terms.layouts basis.terms.block_limit history basis.begun held.marks
      → MarksCaused (AskedOf (set views j (given asked_for v word front))) (DueOf (set views j (given asked_for v word front))) basis.terms.layouts basis.terms.block_limit front.history basis.begun front.marks
  given_marks asked_for basis history views j v held word front added at basis_is turn_is history_is makes before =
      let u = given asked_for v word front in
      let asked = AskedOf (set views j u) in
      let due = DueOf (set views j u) in
      let later = caused_later (AskedOf views) asked (DueOf views) due basis.terms.layouts basis.terms.block_limit history front.history
      (asked_on views j v u at (λ n. omega (arith, times_of-append n v.asked (cond asked_for (marked_in v.turn front) [])))) (due_on views j v u at (λ sample is. is)) (added, sym history_is) basis.begun held.marks before in
      ⊎_elim
      (λ same. subst (λ ms. MarksCaused asked due basis.terms.layouts basis.terms.block_limit front.history basis.begun ms) (sym same) later)
      (λ made. subst (λ ms. MarksCaused asked due basis.terms.layouts basis.terms.block_limit front.history basis.begun ms) (sym made.1)
      (caused_more asked due basis.terms.layouts basis.terms.block_limit front.history basis.begun held.marks made.0 later
      (⊎_elim
      (λ is. inl (asked_here views j v u at made.0.through (asks_made asked_for v held word front made.0 is turn_is made.1)))
      (λ hands. inr (subst (λ (b : Basis). HandsOver due b.terms.layouts b.terms.block_limit front.history (durable held.marks) made.0.through) basis_is
      (hands_later (IsAmong v.due) due v.basis.terms.layouts v.basis.terms.block_limit front.history front.history (durable held.marks) made.0.through (due_here views j v u at) (prefix_self front.history) hands))) made.2))) makes

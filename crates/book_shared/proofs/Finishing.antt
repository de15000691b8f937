-- The answer of a write is taken in, and the turn given back.
use Rattle.std.proofs.Common.{◌≡◌, ℕ, true, false, List, [], ◌∷◌, ◌++◌, length, refl, sym, ap, ◌∙◌, subst, inl, inr, append-nil}
use mathlib.Core.List.{IsPrefix}
use Rattle.atomic_table.specs.Table.{rest}
use Rattle.mdf_disk.specs.declared.disk.Disk.{Ghosts as DiskOf}
use Rattle.mdf_gate.proofs.Carrying.{prefix_self, prefix_append}
use Rattle.mdf_gate.specs.Gated.{Gated}
use Rattle.mdf_layout.specs.declared.sample.Sample.{Sample}
use Rattle.book_owned.specs.Account.{Terms}
use Rattle.book_owned.specs.BackHalf.{back_terms}
use Rattle.book_owned.specs.FrontHalf.{FrontTerms, FrontAccount, IsAwaited, FinishTells}
use Rattle.book_owned.specs.Split.{back_part}
use Rattle.book_owned.specs.declared.mark.Mark.{Mark}
use Rattle.book_owned.specs.declared.view.Shown.{Ghosts as ViewOf}
use Rattle.book_owned.specs.declared.written.Written.{Written}
use Rattle.book_owned.specs.declared.written.Written.TheVariants.{Done, DiskFault, Nothing}
use Rattle.book_owned.specs.declared.answer.Flush.{Flush}
use Rattle.book_owned.specs.declared.answer.Flush.TheVariants as flush
use Rattle.book_shared.specs.Basis.{Basis, Device, writing, written, settled}
use Rattle.book_shared.specs.Rule.{AreOwn, lends_block, KeepsAll, IsWrittenBy}
use Rattle.book_shared.specs.Plays.{Here, recount, at_device, held_of, settled_by, MakesMark, Finishes}
use Rattle.book_shared.specs.Turns.{Took, Served, told_by}
use Rattle.book_shared.specs.Rounds.{HasBoth, IsWrittenAs, answered}
use Rattle.book_shared.specs.declared.half.Answer.{Answer}
use Rattle.book_shared.specs.declared.half.Answer.TheVariants.{Marked, Faulted}
use Rattle.book_shared.specs.declared.half.Half.TheVariants.{TheFront, TheBack}
use Rattle.book_shared.specs.declared.view.View.{View}
use Rattle.book_shared.proofs.Keeps.{slot_front, slot_back}
use Rattle.book_shared.proofs.Takings.{carries}
use Rattle.book_shared.proofs.Given.{FrontSteps, turning}

-- what the answer of a write is
abbrev pub answer_in : Written → Answer
answer_in (Done mark block) = Marked mark
answer_in (DiskFault before after block) = Faulted before after
answer_in Nothing = Faulted 0 0

-- the answer that the front waits for is that of the write
awaited_so : {D V : Type 0} (disk : DiskOf D) (basis : Basis) (back : Gated D) (samples : List Sample) (marks : List Mark) (front : FrontAccount V) (answer : Written)
    → IsWrittenAs disk basis back samples marks answer → front.spare ≡ false → front.from ≡ length samples → front.terms.block_limit ≡ basis.terms.block_limit → IsAwaited front answer
awaited_so disk basis back samples marks front (Done mark block) by spare from limit = (spare, by.2 ∙ sym from, by.3 ∙ sym limit)
awaited_so disk basis back samples marks front (DiskFault before after block) by spare from limit = (spare, by.3 ∙ sym limit)
awaited_so disk basis back samples marks front Nothing by spare from limit = absurd by

-- where a write was answered, this is what was told
told_so : {D : Type 0} (disk : DiskOf D) (basis : Basis) (back : Gated D) (samples : List Sample) (marks : List Mark) (answer : Written)
    → IsWrittenAs disk basis back samples marks answer → told_by writing (answered answer) ≡ written (answer_in answer)
told_so disk basis back samples marks (Done mark block) by = refl
told_so disk basis back samples marks (DiskFault before after block) by = refl
told_so disk basis back samples marks Nothing by = absurd by

parts_so : {D : Type 0} (disk : DiskOf D) (basis : Basis) (back : Gated D) (samples : List Sample) (marks : List Mark) (answer : Written)
    → IsWrittenAs disk basis back samples marks answer → KeepsAll disk basis back samples marks × IsWrittenBy disk basis back samples marks (answer_in answer)
parts_so disk basis back samples marks (Done mark block) by = (by.0, by.1)
parts_so disk basis back samples marks (DiskFault before after block) by = (by.0, by.1)
parts_so disk basis back samples marks Nothing by = absurd by

module _ {D V : Type 0} (disk : DiskOf D) (y : View) (n : Here D V) (answer : Written) (both : HasBoth disk y n answer) where
  abbrev seat_device : Device
  seat_device = told_by writing (answered answer)

  -- the front that is out waits for this answer
  pub awaited_now : (front : FrontAccount V) × (n.1 ≡ (0, TheFront front) ∷ rest n.1) × IsAwaited front answer
  awaited_now =
      let waits = both.took.meets.awaits (ap lends_block both.was) in (
        both.front,
        carries n.1 (0, slot_front both.front) ((1, slot_back both.back) ∷ []) both.out,
        awaited_so disk y.basis both.back y.seen y.kept both.front answer both.by waits.0 waits.1 (ap (λ (t : FrontTerms). t.block_limit) both.took.meets.terms),
      )

  -- after it was told the answer the back may come in
  pub bring_ready : (p : Here D V) (same : p.0 ≡ n.0) (new : FrontAccount V) → p.1 ≡ (0, TheFront new) ∷ rest n.1
      → (back : Gated D) × (front : FrontAccount V) × (told : Answer) × (p.1 ≡ (0, TheFront front) ∷ (1, TheBack back) ∷ []) × (p.0.device ≡ written told)
      × KeepsAll disk p.0.basis back p.0.seen p.0.kept × IsWrittenBy disk p.0.basis back p.0.seen p.0.kept told × (back_terms disk back ≡ back_part p.0.basis.terms)
  bring_ready p same new out =
      let parts = parts_so disk y.basis both.back y.seen y.kept answer both.by in
      subst (λ (x : View). (back : Gated D) × (front : FrontAccount V) × (told : Answer) × (p.1 ≡ (0, slot_front front) ∷ (1, slot_back back) ∷ []) × (x.device ≡ written told)
      × KeepsAll disk x.basis back x.seen x.kept × IsWrittenBy disk x.basis back x.seen x.kept told × (back_terms disk back ≡ back_part x.basis.terms)) (sym (same ∙ both.took.rest)) (
        both.back,
        new,
        answer_in answer,
        out ∙ ap (λ b. (0, slot_front new) ∷ b) (ap rest both.out),
        told_so disk y.basis both.back y.seen y.kept answer both.by,
        parts.0,
        parts.1,
        both.terms,
      )

  -- the seat before it gives the front back
  pub settled_took : (p q : Here D V) (same : p.0 ≡ n.0) → q.0 ≡ at_device p.0 (settled_by p.0.device) → Took y q.0 (settled (answer_in answer)) both.front
  settled_took p q same is =
      subst (λ x. Took y x (settled (answer_in answer)) both.front) (sym (is ∙ ap (λ x. at_device x (settled_by x.device)) (same ∙ both.took.rest)))
      (subst (λ d. Took y (at_device (turning y n.0 seat_device both.front) (settled_by seat_device)) d both.front)
      (ap settled_by (told_so disk y.basis both.back y.seen y.kept answer both.by))
      record {
        rest = refl;
        meets = both.took.meets;
        odd = both.took.odd;
        low = both.took.low;
      })

-- what a finish did to the front
pub record HasFinished {V : Type 0} (old new : FrontAccount V) : Type 0 where
  pub steps : FrontSteps old new []
  pub from : new.from ≡ old.from
  pub spare : new.spare ≡ true
  pub history : new.history ≡ old.history

-- it left all but the marks, the spare block, the stop and the view
finished_marks : {V : Type 0} (old new : FrontAccount V) (marks : List Mark) → new ≡ record old { marks = marks; spare = true; view = new.view } → IsPrefix old.marks marks
    → HasFinished old new
finished_marks old new marks is more = record {
  steps = record {
    history = ap (λ (f : FrontAccount _). f.history) is ∙ sym (append-nil old.history);
    marks = subst (λ ms. IsPrefix old.marks ms) (sym (ap (λ (f : FrontAccount _). f.marks) is)) more;
    stopped = λ stop. ap (λ (f : FrontAccount _). f.stopped) is ∙ stop;
    terms = ap (λ (f : FrontAccount _). f.terms) is;
  };
  from = ap (λ (f : FrontAccount _). f.from) is;
  spare = ap (λ (f : FrontAccount _). f.spare) is;
  history = ap (λ (f : FrontAccount _). f.history) is;
}

finished_stop : {V : Type 0} (old new : FrontAccount V) → new ≡ record old { stopped = true; spare = true } → HasFinished old new
finished_stop old new is = record {
  steps = record {
    history = ap (λ (f : FrontAccount _). f.history) is ∙ sym (append-nil old.history);
    marks = subst (λ ms. IsPrefix old.marks ms) (sym (ap (λ (f : FrontAccount _). f.marks) is)) (prefix_self old.marks);
    stopped = λ stop. ap (λ (f : FrontAccount _). f.stopped) is;
    terms = ap (λ (f : FrontAccount _). f.terms) is;
  };
  from = ap (λ (f : FrontAccount _). f.from) is;
  spare = ap (λ (f : FrontAccount _). f.spare) is;
  history = ap (λ (f : FrontAccount _). f.history) is;
}

module _ {V N : Type 0} (view : ViewOf V N) (old new : FrontAccount V) where
  pub finished_so : (answer : Written) (result : Flush N) → FinishTells view old new answer result → HasFinished old new
  finished_so (Done mark block) (flush.Done through shown note) is = finished_marks old new (old.marks ++ mark ∷ []) is.1 (prefix_append old.marks (mark ∷ []))
  finished_so (Done mark block) (flush.DiskFault before after) is = absurd is
  finished_so (Done mark block) (flush.Stopped last) is = absurd is
  finished_so (DiskFault before after block) (flush.Done through shown note) is = absurd is
  finished_so (DiskFault before after block) (flush.DiskFault before' after') is = finished_stop old new is.1
  finished_so (DiskFault before after block) (flush.Stopped last) is = absurd is
  finished_so Nothing (flush.Done through shown note) is = finished_marks old new old.marks is.1 (prefix_self old.marks)
  finished_so Nothing (flush.DiskFault before after) is = absurd is
  finished_so Nothing (flush.Stopped last) is = absurd is

  -- which is what is owed after a write
  pub finishes : {D : Type 0} (disk : DiskOf D) (basis : Basis) (back : Gated D) (samples : List Sample) (marks : List Mark) (answer : Written) (result : Flush N)
      → IsWrittenAs disk basis back samples marks answer → FinishTells view old new answer result → Finishes (held_of old) (answer_in answer) new
  finishes disk basis back samples marks (Done mark block) (flush.Done through shown note) by is = (
    ap (λ (f : FrontAccount V). f.from) is.1,
    ap (λ (f : FrontAccount V). f.spare) is.1,
    ap (λ (f : FrontAccount V). f.marks) is.1,
    ap (λ (f : FrontAccount V). f.stopped) is.1 ∙ is.0,
  )
  finishes disk basis back samples marks (Done mark block) (flush.DiskFault before after) by is = absurd is
  finishes disk basis back samples marks (Done mark block) (flush.Stopped last) by is = absurd is
  finishes disk basis back samples marks (DiskFault before after block) (flush.Done through shown note) by is = absurd is
  finishes disk basis back samples marks (DiskFault before after block) (flush.DiskFault before' after') by is = (
    ap (λ (f : FrontAccount V). f.from) is.1,
    ap (λ (f : FrontAccount V). f.spare) is.1,
    ap (λ (f : FrontAccount V). f.marks) is.1,
    ap (λ (f : FrontAccount V). f.stopped) is.1,
  )
  finishes disk basis back samples marks (DiskFault before after block) (flush.Stopped last) by is = absurd is
  finishes disk basis back samples marks Nothing result by is = absurd by

  -- the mark was asked for, where there is one
  pub makes_asked : (due : List Sample) (terms : Terms) (answer : Written) (result : Flush N) → FinishTells view old new answer result → MakesMark true due terms (held_of old) new
  makes_asked due terms (Done mark block) (flush.Done through shown note) is = inr (mark, ap (λ (f : FrontAccount V). f.marks) is.1, inl refl)
  makes_asked due terms (Done mark block) (flush.DiskFault before after) is = absurd is
  makes_asked due terms (Done mark block) (flush.Stopped last) is = absurd is
  makes_asked due terms (DiskFault before after block) (flush.Done through shown note) is = absurd is
  makes_asked due terms (DiskFault before after block) (flush.DiskFault before' after') is = inl (ap (λ (f : FrontAccount V). f.marks) is.1)
  makes_asked due terms (DiskFault before after block) (flush.Stopped last) is = absurd is
  makes_asked due terms Nothing (flush.Done through shown note) is = inl (ap (λ (f : FrontAccount V). f.marks) is.1)
  makes_asked due terms Nothing (flush.DiskFault before after) is = absurd is
  makes_asked due terms Nothing (flush.Stopped last) is = absurd is

-- a seat that gives the device back too knows no less
pub served_at : (v x : View) (d : Device) (history added : List Sample) → Served v x history added → Served v (at_device x d) history added
served_at v x d history added is = record {
  later = is.later;
  seen = is.seen;
  kept = is.kept;
  knows = is.knows;
  mine = is.mine;
  own = is.own;
  olds = is.olds;
  basis_is = is.basis_is;
  turns = is.turns;
  found = is.found;
}

-- lists that are counted anew are what they were
pub recount_same : (owners : List ℕ) (history : List Sample) (mine : List (ℕ × List Sample)) → AreOwn owners history mine → recount owners history mine ≡ mine
recount_same owners history [] own = refl
recount_same owners history (part ∷ parts) own =
    ap (λ (samples : List Sample). (part.0, samples) ∷ recount owners history parts) (sym own.0) ∙ ap (λ ps. part ∷ ps) (recount_same owners history parts own.1)

-- Sources that have worked, in a book that was flushed since.
use Rattle.std.proofs.Common.{◌≡◌, ℕ, suc, List, [], ◌∷◌, sym, ◌∙◌, ap, subst, get_or, append-nil}
use mathlib.Core.List.{IsPrefix}
use Rattle.mdf_gate.proofs.Carrying.{prefix_self, prefix_trans}
use Rattle.mdf_layout.specs.History.{source_samples}
use Rattle.mdf_layout.specs.declared.sample.Sample.{Sample}
use Rattle.book_owned.specs.Account.{Account, Steps, Terms}
use Rattle.acq_run.specs.Works.{HasRoomNext, IsOver}
use Rattle.acq_run.specs.Ran.{AllRan, EndsIn, Ran}
use Rattle.acq_run.specs.declared.feed.Fed.{Fed}
use Rattle.acq_run.specs.declared.work.Driven.{Driven}
use Rattle.acq_run.specs.declared.work.Ended.{Ended}
use Rattle.acq_run.specs.declared.work.Ended.TheVariants.{Running, Done, SessionFull, Stopped, DiskFault, Memory}
use Rattle.acq_run.proofs.Doing.{marked_later}

module _ {D V : Type 0} (old new : Account D V) (steps : Steps old new []) where
  same : new.history ≡ old.history
  same = steps.history ∙ append-nil old.history

  pub ends_later : (seen : List Sample) (rest : List Fed) (how : Ended) → EndsIn old seen rest how → EndsIn new seen rest how
  ends_later seen rest Running ends = absurd ends
  ends_later seen rest Done ends = ends
  ends_later seen rest (SessionFull held size limit) ends = subst (λ (t : Terms). IsOver t.layouts t.session_limit seen rest held size limit) (sym steps.terms) ends
  ends_later seen rest (Stopped mark) ends =
      (steps.stopped ends.0, (ends.1.0, prefix_trans ends.1.0 old.marks new.marks ends.1.1 steps.marks, ends.1.2))
  ends_later seen rest (DiskFault less more) ends = (steps.stopped ends.0, ends.1)
  ends_later seen rest Memory ends = subst (λ (t : Terms). HasRoomNext t.layouts t.session_limit seen rest) (sym steps.terms) ends

  ran_later : (owners : List ℕ) (source : ℕ) (seen : List Sample) (feds : List Fed) (driven : Driven) → Ran owners old source seen feds driven
      → Ran owners new source seen feds driven
  ran_later owners source seen feds driven ran = record {
    done = ran.done;
    rest = ran.rest;
    parts = ran.parts;
    own = ap (λ h. source_samples owners h source) same ∙ ran.own;
    counted = ran.counted;
    begins = subst (IsPrefix seen) (sym same) ran.begins;
    all_own = ran.all_own;
    marked = marked_later owners source seen seen old.marks new.marks [] ran.done (prefix_self seen) steps.marks ran.marked;
    ends = ends_later seen ran.rest driven.ended ran.ends;
  }

  pub all_later : (owners : List ℕ) (seen : List (List Sample)) (source : ℕ) (feeds : List (List Fed)) (all : List Driven) → AllRan owners old seen source feeds all
      → AllRan owners new seen source feeds all
  all_later owners seen source [] [] ran = tt
  all_later owners seen source [] (driven ∷ all) ran = absurd ran
  all_later owners seen source (feds ∷ feeds) [] ran = absurd ran
  all_later owners seen source (feds ∷ feeds) (driven ∷ all) ran =
      (ran_later owners source (get_or seen source []) feds driven ran.0, all_later owners seen (suc source) feeds all ran.1)

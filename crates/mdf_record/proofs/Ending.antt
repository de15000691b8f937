-- How a book ends, whose sources have worked: flushed a last time, and closed.
use Rattle.std.proofs.Common.{◌≡◌, ℕ, inl, inr, ⊎_elim, true, false, true≢false, Bool, List, [], ◌∷◌, length, take, Option, Some, None, Result, refl, sym, ◌∙◌, ap, subst, arith, append-nil}
use Rattle.std.specs.Prelude.{IfErr}
use Rattle.std.proofs.lemmas.Grind.{fold-append}
use Rattle.mdf_layout.specs.declared.sample.Sample.{Sample}
use Rattle.book_owned.specs.Members.{DiskOf}
use Rattle.book_owned.specs.Account.{Account, Steps, Terms}
use Rattle.book_owned.specs.Answers.{MarksAll}
use Rattle.book_owned.specs.Marks.{durable}
use Rattle.book_owned.specs.declared.mark.Mark.{Mark}
use Rattle.book_view.specs.Known.{Note}
use Rattle.acq_run.specs.Audience.{count_in, tells_of}
use Rattle.acq_run.specs.declared.audience.Audience.{Audience}
use Rattle.mdf_command.specs.declared.fault.Fault.{Fault}
use Rattle.mdf_command.specs.declared.fault.Fault.TheVariants as fault
use Rattle.mdf_record.specs.Finish.{FinishEnds, Finishes, IsAllDurable, MarksLast, ProblemComes}
use Rattle.mdf_record.specs.declared.sources.End.{End}
use Rattle.mdf_record.specs.declared.sources.End.TheVariants as end_

-- the mark that it made
pub marks_last : {D : Type 0} (disk : DiskOf D) (old new : Account D Audience) → MarksAll disk old new → MarksLast old new
marks_last disk old new marks = ⊎_elim (λ same. inl same.0) (λ adds. inr (adds.0, adds.1, adds.2)) marks

-- the last flush was done
module _ {D : Type 0} (disk : DiskOf D) (old new : Account D Audience) (live : Bool) (driven : Result Unit End) (shown through : ℕ)
    (steps : Steps old new []) (going : old.stopped ≡ false) (goes_on : new.stopped ≡ false) (through_is : through ≡ length old.history)
    (shown_is : shown ≡ count_in new.view) (marks : MarksAll disk old new) where
  history_is : new.history ≡ old.history
  history_is = steps.history ∙ append-nil old.history

  all_through : durable new.marks ≡ length old.history
  all_through = ⊎_elim
      (λ same. ap durable same.0 ∙ same.2)
      (λ added. ap durable added.1 ∙ ap (λ (m : Mark). m.through) (fold-append (λ (before mark : Mark). mark) (record { moment = 0; through = 0 }) old.marks (added.0 ∷ [])) ∙ added.2)
      marks

  all_durable : IsAllDurable new
  all_durable = (goes_on, all_through ∙ ap length (sym history_is))

  ends_done : IfErr driven (λ e. e ≡ end_.Stopped → old.stopped ≡ true) → (problem : Option Fault) → ProblemComes driven live shown through problem
      → FinishEnds new live driven problem
  ends_done stopped None comes = (comes.0, all_durable)
  ends_done stopped (Some fault.Device) comes = absurd (true≢false (sym (subst (λ d. IfErr d (λ e. e ≡ end_.Stopped → old.stopped ≡ true)) comes stopped refl) ∙ going))
  ends_done stopped (Some (fault.SessionFull held size limit)) comes = (comes, all_durable)
  ends_done stopped (Some fault.Memory) comes =
      (⊎_elim inl (λ unshown. inr (unshown.0, unshown.1, omega (arith, unshown.2, shown_is, through_is, ap length history_is))) comes, all_durable)
  ends_done stopped (Some _) comes = absurd comes

  pub finished : (note : Option Note) → tells_of note old.terms.which (take shown old.history) → IfErr driven (λ e. e ≡ end_.Stopped → old.stopped ≡ true)
      → ProblemComes driven live shown through None → Finishes old new live driven None note
  finished note tells stopped comes = record {
    steps = steps;
    ends = ends_done stopped None comes;
    noted = (
      shown,
      subst (λ (h : List Sample). tells_of note new.terms.which (take shown h)) (sym history_is)
          (subst (λ (t : Terms). tells_of note t.which (take shown old.history)) (sym steps.terms) tells),
      λ is. omega (arith, comes.1 is, through_is, ap length history_is),
    );
  }

  pub not_finished : IfErr driven (λ e. e ≡ end_.Stopped → old.stopped ≡ true) → (problem : Option Fault) → (problem ≡ None → ⊥)
      → ProblemComes driven live shown through problem → Finishes old new live driven problem None
  not_finished stopped None some comes = absurd (some refl)
  not_finished stopped (Some problem) some comes = record { steps = steps; ends = ends_done stopped (Some problem) comes; noted = refl }

-- the disk failed in the last flush, or before
pub failed : {D : Type 0} (old new : Account D Audience) (live : Bool) (driven : Result Unit End) → Steps old new [] → new.stopped ≡ true
    → Finishes old new live driven (Some fault.Device) None
failed old new live driven steps stopped = record { steps = steps; ends = stopped; noted = refl }

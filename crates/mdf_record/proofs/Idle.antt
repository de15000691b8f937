-- A book that no source could work at, for want of memory.
use Rattle.std.proofs.Common.{◌≡◌, ◌<◌, ◌∙◌, Bool, true, false, ℕ, List, [], length, replicate, Some, None, inr, refl, sym, ap, subst, arith}
use Rattle.std.specs.Prelude.{slice_get}
use Rattle.std.proofs.lemmas.List.{get_or-replicate, length-replicate}
use Rattle.std.proofs.lemmas.Option.{slice_get_read, slice_get_within}
use mathlib.Core.List.{IsPrefix}
use Rattle.mdf_layout.specs.History.{source_samples}
use Rattle.mdf_layout.specs.Stock.{Stock}
use Rattle.mdf_layout.specs.declared.sample.Sample.{Sample}
use Rattle.mdf_gate.specs.Gated.{Gated}
use Rattle.mdf_gate.specs.Images.{head_of}
use Rattle.book_owned.specs.Members.{DiskOf}
use Rattle.book_owned.specs.declared.view.Shown.{Ghosts as ViewOf}
use Rattle.book_owned.specs.Account.{Account}
use Rattle.book_owned.specs.Begun.{HasBegun}
use Rattle.book_owned.specs.Marks.{durable}
use Rattle.acq_run.specs.declared.audience.Audience.{Audience}
use Rattle.acq_run.specs.Ran.{AreOwned}
use Rattle.acq_script.specs.Tasks.{samples_of}
use Rattle.acq_script.specs.declared.script.Script.{Script}
use Rattle.mdf_command.specs.declared.fault.Fault.{Fault}
use Rattle.mdf_command.specs.declared.fault.Fault.TheVariants.{Memory}
use Rattle.mdf_record.specs.Finish.{IsAllDurable}
use Rattle.mdf_record.specs.Record.{AreAccepted, IsIdle, IsRecorded, Outcome, live_of, outcome}
use Rattle.mdf_record.specs.Recorded.{Closes, HasRun}
use Rattle.mdf_record.specs.declared.record.Recorded.{Recorded}
use Rattle.mdf_record.proofs.Recording.{closed_recorded, closed_run, closed_saved}
use Rattle.mdf_record.proofs.Causing.{have_none}
use Rattle.mdf_record.proofs.Runs.{none_own}

-- one of so many sources, none of which accepted a sample
none_at : (n s : ℕ) → s < n → slice_get {X = ℕ} (replicate n 0) s ≡ Some 0
none_at n s less = slice_get_read {X = ℕ} (replicate n 0) n s 0 (sym (length-replicate {A = ℕ} n 0)) less (sym (get_or-replicate {A = ℕ} n s 0 0 less))

-- no line says what is shown where something went wrong
no_live : (live : Bool) (problem : Fault) (n : ℕ) → live_of live (Some problem) n ≡ None
no_live true problem n = refl
no_live false problem n = refl

module _ {D N : Type 0} (tells : DiskOf D) (shows : ViewOf Audience N) (script : Script) (file : Gated D) (view : Audience) (begun : Account D Audience)
    (accepted : Stock ℕ) (recorded : Recorded D) (begins : HasBegun tells shows file script.plan.shapes script.plan.block script.plan.session view begun)
    (none : accepted.items ≡ replicate (length script.lists) 0) (closes : Closes tells begun accepted None (Some Memory) [] recorded) where
  abbrev left : Outcome
  left = outcome tells begun.disk begun.history begun.marks

  all_durable : IsAllDurable begun
  all_durable = (begins.going, ap durable begins.marks ∙ ap length (sym begins.history))

  recorded_is : IsRecorded script (head_of (tells.story file.disk) file.first) file.start left
  recorded_is = closed_recorded tells shows script file view begun accepted None (Some Memory) [] recorded begins.terms closes
      (subst (AreOwned script.plan.owners (length script.plan.shapes) script.plan.sources) (sym begins.history) (λ k d within. absurd (omega (arith, within))))
      (λ s tasks there. subst (λ (h : List Sample). IsPrefix (source_samples script.plan.owners h s) (samples_of tasks)) (sym begins.history) (samples_of tasks, refl))
      (λ s tasks there. none_own script.plan.owners s begun.history begun.marks (length (source_samples script.plan.owners begun.history s)) [] tasks
      (omega (arith, ap (λ (h : List Sample). length (source_samples script.plan.owners h s)) begins.history)))
      (have_none script (record { moment = tells.moment file.disk; through = 0 }) begun.marks begun.history begins.marks refl)

  accepted_are : AreAccepted script left accepted.items
  accepted_are = record {
    count = ap length none ∙ length-replicate {A = ℕ} (length script.lists) 0;
    each = λ s tasks there.
        ap (λ counts. slice_get counts s) none ∙ none_at (length script.lists) s (slice_get_within script.lists s tasks there)
        ∙ ap (λ (h : List Sample). Some (length (source_samples script.plan.owners h s))) (sym begins.history);
  }

  idle : IsIdle script left
  idle = record {
    none = begins.history;
    one = ap length begins.marks;
    saved = closed_saved tells shows script file view begun accepted None (Some Memory) [] recorded begins.terms closes all_durable;
  }

  pub idle_run : HasRun tells script file (outcome tells recorded.out recorded.history.items recorded.marks.items) recorded.end
  idle_run = closed_run tells shows script file view begun accepted None (Some Memory) [] recorded begins.terms closes recorded_is accepted_are
      (sym (no_live script.plan.live Memory (length begun.history)))
      (inr (idle, refl)) (inr (inr idle))

-- What a source is told is durable.
use Rattle.std.proofs.Common.{◌≡◌, ◌+◌, ◌-◌, ◌<◌, ℕ, zero, suc, List, [], ◌∷◌, ◌++◌, length, take, get_or, slice_get, All, Option, Some, None, refl, ◌∙◌, ap, subst, inl, inr, arith, length-append}
use Rattle.std.specs.Prelude.{IsSomeAnd}
use Rattle.std.proofs.Math.Seq.{get_or-append_seam}
use Rattle.std.proofs.lemmas.List.Elements.{filter-append}
use Rattle.mdf_layout.specs.History.{source_samples}
use Rattle.mdf_layout.specs.declared.sample.Sample.{Sample}
use Rattle.book_owned.specs.Kept.{MarkHolds, MarksHold}
use Rattle.book_owned.specs.Marks.{last_mark}
use Rattle.book_owned.specs.declared.mark.Mark.{Mark}
use Rattle.book_owned.proofs.Lasts.{last_mark_at}
use Rattle.book_shared.specs.Told.{HasMark}
use Rattle.acq_run.specs.Feeds.{flushes_behind}
use Rattle.acq_run.specs.declared.feed.Fed.{Fed}
use Rattle.acq_run.specs.declared.feed.Fed.TheVariants as fed
use Rattle.acq_run.specs.Works.{AreMarked, IsMarkedAt}
use Rattle.acq_script.specs.declared.script.Plan.{Plan}
use Rattle.acq_script.specs.declared.script.Script.{Script}
use Rattle.mdf_command.specs.declared.fault.Fault.{Fault}
use Rattle.mdf_command.specs.declared.fault.Fault.TheVariants as fault
use Rattle.mdf_record.specs.Head.{script_head}
use Rattle.mdf_record.specs.Record.{CloseComes, IsRecorded, IsSaved, Outcome}
use Rattle.mdf_log.specs.Durable.{AreDurableIn, IsDurable, IsDurableWhole, history_of}

-- the first mark goes through no sample, so there is one
some_marks : (marks : List Mark) → IsSomeAnd (slice_get marks 0) (λ (mark : Mark). mark.through ≡ 0) → 0 < length marks
some_marks [] first = absurd first
some_marks (mark ∷ marks) first = omega arith

-- a part whose marks hold
module _ (plan : Plan) (head : List ℕ) (left : Outcome) (hold : MarksHold plan.shapes head left.disk.story left.disk.moment left.history left.marks) where
  -- the mark at a place
  durable_at : (k through : ℕ) (mark : Mark) → k < length left.marks → get_or left.marks k mark ≡ mark → mark.through ≡ through → AreDurableIn plan head left through
  durable_at k through mark within there goes = record {
    mark = mark;
    stands = (k, within, there);
    through_is = goes;
    holds = subst (MarkHolds plan.shapes head left.disk.story left.disk.moment left.history) there (hold k mark within);
  }

  pub durable_through : (through : ℕ) → HasMark left.marks through → AreDurableIn plan head left through
  durable_through through has = durable_at (length has.before) through has.mark
      (omega (arith, ap length has.marks_are, length-append has.before (has.mark ∷ has.after)))
      (ap (λ marks. get_or marks (length has.before) has.mark) has.marks_are ∙ get_or-append_seam has.before has.mark has.after has.mark)
      has.through_is

  pub durable_whole : IsSomeAnd (slice_get left.marks 0) (λ (mark : Mark). mark.through ≡ 0) → IsSaved plan left → IsDurableWhole plan head left
  durable_whole first saved =
      let some = some_marks left.marks first in
      durable_at (length left.marks - 1) (length left.history) (last_mark left.marks) (omega (arith, some)) (last_mark_at left.marks (last_mark left.marks) some) saved.all_durable

-- all that was accepted is saved but where the disk failed
saved_of : (script : Script) (faults : ℕ) (left : Outcome) (seen : List (List Sample)) (problem : Option Fault) → CloseComes script faults left seen problem
    → ¬ (problem ≡ Some fault.Device) → IsSaved script.plan left
saved_of script faults left seen None comes calm = comes.saved
saved_of script faults left seen (Some fault.Device) comes calm = absurd (calm refl)
saved_of script faults left seen (Some (fault.SessionFull held size limit)) comes calm = comes.are.saved
saved_of script faults left seen (Some fault.Memory) (inl short) calm = short.are.saved
saved_of script faults left seen (Some fault.Memory) (inr (inl unshown)) calm = unshown.1.saved
saved_of script faults left seen (Some fault.Memory) (inr (inr idle)) calm = idle.saved
saved_of script faults left seen (Some _) comes calm = absurd comes

-- so it is durable whole
pub closed_whole : (script : Script) (now start faults : ℕ) (left : Outcome) (seen : List (List Sample)) (problem : Option Fault) → IsRecorded script (script_head now script) start left
    → CloseComes script faults left seen problem → ¬ (problem ≡ Some fault.Device) → IsDurableWhole script.plan (script_head now script) left
closed_whole script now start faults left seen problem recorded comes calm =
    durable_whole script.plan (script_head now script) left recorded.marks_hold recorded.marks_rise.first (saved_of script faults left seen problem comes calm)

-- how many samples a source has in two histories
own_both : (owners : List ℕ) (source : ℕ) (some more : List Sample)
    → length (source_samples owners (some ++ more) source) ≡ length (source_samples owners some source) + length (source_samples owners more source)
own_both owners source some more = ap length (filter-append _ some more) ∙ length-append (source_samples owners some source) (source_samples owners more source)

-- Of a part behind others, whose marks hold: each flush of a source that has its mark is told of a number that is durable.
module _ (plan : Plan) (head : List ℕ) (before : List Outcome) (left : Outcome) (source base : ℕ)
    (whole : All (IsDurableWhole plan head) before)
    (hold : MarksHold plan.shapes head left.disk.story left.disk.moment left.history left.marks)
    (base_is : length (source_samples plan.owners (history_of before) source) ≡ base) where
  marked_durable : (own : List Sample) (n : ℕ) → n ≡ base + length own → IsMarkedAt plan.owners source left.history left.marks own → IsDurable plan head before left source n
  marked_durable own n counted is = record {
    whole = whole;
    through = is.through;
    durable = durable_through plan head left hold is.through is.mark;
    own = omega (arith, own_both plan.owners source (history_of before) (take is.through left.history), base_is, ap length is.own_is, counted);
  }

  durable_from : (own : List Sample) (n : ℕ) (done : List Fed) → n ≡ base + length own → AreMarked plan.owners source left.history left.marks own done
      → All (IsDurable plan head before left source) (flushes_behind n done)
  durable_from own n [] counted marked k d within = absurd (omega (arith, within))
  durable_from own n (fed.Sample sample ∷ done) counted marked k d within =
      durable_from (own ++ sample ∷ []) (n + 1) done (omega (arith, counted, length-append own (sample ∷ []))) marked k d within
  durable_from own n (fed.Flush ∷ done) counted marked zero d within = marked_durable own n counted marked.0
  durable_from own n (fed.Flush ∷ done) counted marked (suc k) d within = durable_from own n done counted marked.1 k d (omega (arith, within))
  durable_from own n (fed.End ∷ done) counted marked k d within = durable_from own n done counted marked k d within

  pub told_durable : (done : List Fed) → AreMarked plan.owners source left.history left.marks [] done → All (IsDurable plan head before left source) (flushes_behind base done)
  told_durable done marked = durable_from [] base done (omega arith) marked

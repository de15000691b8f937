-- A book that was driven, flushed and closed says how the recording ended.
use Rattle.std.proofs.Common.{◌≡◌, ◌≢◌, ◌≤◌, ◌+◌, map, Bool, true, false, inl, inr, ⊎_elim, ℕ, List, [], ◌∷◌, ◌++◌, length, Option, Some, None, Result, Ok, Err, true≢false, get_or, take, refl, sym, ◌∙◌, ap, subst, arith, append-nil, length-append}
use Rattle.std.specs.Prelude.{◌<◌, ◌⊎◌, slice_get, slice_index, is_some, IsOk, IfSome, IfOk, IfErr, MatchBool, cond, ◌==◌}
use Rattle.std.proofs.lemmas.Bool.{cases_eq, cond-true, cond-false, eq-eqb, ne_eqb}
use Rattle.std.proofs.lemmas.Option.{slice_get_cases}
use Rattle.std.proofs.Math.Seq.{get_or-append_seam}
use Rattle.std.proofs.lemmas.List.{take_all}
use mathlib.Core.List.{IsPrefix}
use Rattle.mdf_disk.specs.Story.{Story, Agrees, IsFresh, LeftSince}
use Rattle.mdf_disk.specs.Crash.{Adds, HoldsSince}
use Rattle.mdf_disk.proofs.Crash.{adds_none}
use Rattle.mdf_disk.specs.declared.role.Role.TheVariants.{Create}
use Rattle.book_owned.specs.Members.{DiskOf}
use Rattle.book_owned.specs.declared.view.Shown.{Ghosts as ViewOf}
use Rattle.mdf_disk.specs.State.{DiskState, state_of}
use Rattle.mdf_format.specs.Cause.{Rose}
use Rattle.mdf_layout.specs.History.{group_samples, source_samples}
use Rattle.mdf_layout.specs.Record.{cost_of, history_cost}
use Rattle.mdf_layout.specs.Stock.{Stock}
use Rattle.mdf_layout.specs.declared.sample.Sample.{Sample}
use Rattle.mdf_gate.specs.Gated.{Gated}
use Rattle.mdf_gate.specs.Images.{head_of, IsBegun}
use Rattle.mdf_gate.proofs.Begun.{begun_holds}
use Rattle.book_owned.specs.Account.{Account, Terms}
use Rattle.book_owned.specs.Begun.{HasBegun}
use Rattle.book_owned.specs.Kept.{HasBlocksOf, HoldsDurable, IsKept}
use Rattle.mdf_gate.specs.Carried.{IsCarried, IsEncoded}
use Rattle.book_owned.specs.Marks.{durable}
use Rattle.book_view.specs.Known.{Note}
use Rattle.acq_run.specs.Watching.{counted}
use Rattle.acq_run.specs.declared.audience.Audience.{Audience}
use Rattle.acq_script.specs.Tasks.{samples_of}
use Rattle.acq_script.specs.Stage.{IsScript}
use Rattle.acq_script.specs.declared.script.Script.{Script}
use Rattle.mdf_carried.specs.Recovers.{IsReadHead}
use Rattle.acq_script.specs.declared.script.Task.{Task}
use Rattle.acq_run.specs.Works as Fed
use Rattle.book_shared.specs.Causes.{MarksCaused}
use Rattle.acq_run.specs.Ran.{AllRan, AreOwned, AskedFor, DueFor}
use Rattle.acq_run.specs.declared.work.Driven.{Driven}
use Rattle.acq_run.specs.declared.work.Ended.{Ended}
use Rattle.acq_run.specs.declared.work.Ended.TheVariants as work
use Rattle.acq_run.proofs.Later.{all_later}
use Rattle.mdf_record.specs.Sources.{AreOwnMarked, RanAll, ends_of, feds_of, told_of}
use Rattle.mdf_record.specs.Finish.{FileFaultComes, Finishes, FinishEnds, IsAllDurable, IsMade, IsUnmade, MarksLast, NoteComes, WantsToShow}
use Rattle.mdf_record.specs.Record.{AreAccepted, AreEnds, CloseComes, EndedAt, HasSeen, HaveSeen, IsComplete, IsFull, IsIdle, IsNext, IsRecorded, IsSaved, IsShort, IsUnshown, OfSources, Outcome, SourceComes, WereSeen, live_of, outcome}
use Rattle.mdf_record.specs.Head.{script_head}
use Rattle.mdf_record.specs.Recorded.{Closes, HasRun, RunComes, RecordComes}
use Rattle.mdf_record.specs.declared.sources.End.{End}
use Rattle.mdf_record.specs.declared.sources.End.TheVariants as end_
use Rattle.mdf_command.specs.declared.fault.Fault.{Fault}
use Rattle.mdf_command.specs.declared.fault.Fault.TheVariants as fault
use Rattle.mdf_record.specs.declared.record.Recorded.{Recorded}
use Rattle.mdf_record.specs.declared.record.RecordEnd.{RecordEnd}
use Rattle.mdf_record.specs.declared.record.RecordEnd.TheVariants.{Refused, Closed}
use Rattle.mdf_record.specs.Causes.{HaveCauses}
use Rattle.mdf_record.proofs.Causing.{have_causes}
use Rattle.mdf_record.proofs.Feeding.{next_task, samples_of-append}
use Rattle.mdf_record.proofs.Runs.{RanAt, RanTasks, accepted-length, all_room, each_done, first_full, hows-length, own_begins, own_flushes, ran_of, seen_flushes, whole_ran, worst_err}

-- the element at a seam
at_seam : {A : Type 0} (xs : List A) (y : A) (ys : List A) → slice_get (xs ++ y ∷ ys) (length xs) ≡ Some y
at_seam xs y ys = ⊎_elim
    (λ there. there.2 ∙ ap Some (sym there.3 ∙ get_or-append_seam xs y ys there.0))
    (λ past. absurd (omega (arith, past.0, length-append xs (y ∷ ys))))
    (slice_get_cases (xs ++ y ∷ ys) (length xs)).1

-- the samples of a group are among those of its source
not_of_group : (b : Bool) (sample : Sample) (samples : List Sample) (group : ℕ) → sample.group ≢ group
    → group_samples (cond b (sample ∷ samples) samples) group ≡ group_samples samples group
not_of_group true sample samples group differs = cond-false (sample.group == group) _ _ (ne_eqb sample.group group differs)
not_of_group false sample samples group differs = refl

-- one sample more in front, of the group or of another
module _ (owners : List ℕ) (sample : Sample) (history : List Sample) (group : ℕ)
    (same_behind : group_samples (source_samples owners history (slice_index owners group)) group ≡ group_samples history group) where
  abbrev own : List Sample
  own = source_samples owners history (slice_index owners group)

  of_this : sample.group ≡ group → group_samples (source_samples owners (sample ∷ history) (slice_index owners group)) group ≡ group_samples (sample ∷ history) group
  of_this same =
      ap (λ samples. group_samples samples group)
      (cond-true (slice_index owners sample.group == slice_index owners group) (sample ∷ own) own (eq-eqb _ _ (ap (slice_index owners) same)))
      ∙ ap (λ rest. cond (sample.group == group) (sample ∷ rest) rest) same_behind

  of_another : sample.group ≢ group → group_samples (source_samples owners (sample ∷ history) (slice_index owners group)) group ≡ group_samples (sample ∷ history) group
  of_another differs =
      not_of_group (slice_index owners sample.group == slice_index owners group) sample own group differs ∙ same_behind
      ∙ sym (cond-false (sample.group == group) (sample ∷ group_samples history group) (group_samples history group) (ne_eqb sample.group group differs))

group_of_source : (owners : List ℕ) (history : List Sample) (group : ℕ)
    → group_samples (source_samples owners history (slice_index owners group)) group ≡ group_samples history group
group_of_source owners [] group = refl
group_of_source owners (sample ∷ history) group = let behind = group_of_source owners history group in
    ⊎_elim (λ same. of_this owners sample history group behind same) (λ differs. of_another owners sample history group behind differs) (cases_eq sample.group group)

-- the number of the live line
live_comes : (live : Bool) (problem : Option Fault) (which : ℕ) (history : List Sample) (last : Option Note) → MatchBool live (0 < which) (which ≡ 0)
    → NoteComes problem live which history last → counted last ≡ live_of live problem (length history)
live_comes true None which history None is noted = absurd (omega (arith, is, noted.1))
live_comes true None which history (Some note) is noted = ap (λ (samples : List Sample). Some (length samples)) (noted.1.0 ∙ take_all noted.0 history (noted.2 refl))
live_comes true (Some problem) which history last is noted = ap counted noted
live_comes false None which history None is noted = refl
live_comes false None which history (Some note) is noted = absurd (omega (arith, is, noted.1.1))
live_comes false (Some problem) which history last is noted = ap counted noted

-- the terms of a book that was begun over a script
abbrev pub begun_terms : {D N : Type 0} → DiskOf D → ViewOf Audience N → Script → Gated D → Audience → Terms
begun_terms tells shows script file view = record {
  layouts = script.plan.shapes;
  block_limit = script.plan.block;
  session_limit = script.plan.session;
  which = shows.which view;
  head = head_of (tells.story file.disk) file.first;
  start = file.start;
  faults = file.faults;
  told = is_some (tells.story file.disk);
  asked = tells.asked file.disk;
}

-- of what holds of a content, where that is told, a part does
told_part : (told : Option (List ℕ)) (P Q : List ℕ → Type 0) → ((file : List ℕ) → P file → Q file) → IfSome told P → IfSome told Q
told_part None P Q part holds = tt
told_part (Some file) P Q part holds = part file holds

-- such a book, when it was closed
module _ {D N : Type 0} (tells : DiskOf D) (shows : ViewOf Audience N) (script : Script) (file : Gated D) (view : Audience) (book : Account D Audience)
    (accepted : Stock ℕ) (live : Option ℕ) (problem : Option Fault) (seen : List (List Sample)) (recorded : Recorded D) (terms_are : book.terms ≡ begun_terms tells shows script file view)
    (closes : Closes tells book accepted live problem seen recorded) where
  abbrev head : List ℕ
  head = head_of (tells.story file.disk) file.first

  abbrev terms : Terms
  terms = begun_terms tells shows script file view

  abbrev closed : Outcome
  closed = outcome tells book.disk book.history book.marks

  kept : IsKept terms (state_of tells book.disk) book.history book.marks
  kept = subst (λ t. IsKept t (state_of tells book.disk) book.history book.marks) terms_are closes.kept

  pub closed_recorded : AreOwned script.plan.owners (length script.plan.shapes) script.plan.sources book.history
      → OfSources script (λ source tasks. IsPrefix (source_samples script.plan.owners book.history source) (samples_of tasks))
      → OfSources script (λ source tasks. AreOwnMarked script.plan.owners source book.history book.marks
      (λ n. n < length (source_samples script.plan.owners book.history source)) [] tasks)
      → HaveCauses script book.history book.marks → IsRecorded script head file.start closed
  closed_recorded owned own flushes causes = record {
    marks_hold = kept.marks_hold;
    start_holds = kept.start_holds;
    marks_rise = kept.marks_rise;
    owned = owned;
    own_prefix = own;
    flush_lines = flushes;
    causes = causes;
    cost = subst (λ (t : Terms). history_cost t.layouts book.history ≤ t.session_limit) terms_are closes.within;
    pending = kept.pending;
  }

  -- the file carries all of the history where all of it is durable
  pub closed_saved : IsAllDurable book → IsSaved script.plan closed
  closed_saved all =
      let shapes = script.plan.shapes in
      let marked = take (durable book.marks) book.history in
      let holds = subst (λ (t : Terms). IfSome (tells.content book.disk) (HoldsDurable t book.history book.marks)) terms_are (closes.holds all.0) in
      record {
        all_durable = all.1;
        holds = subst (λ samples. IfSome (tells.content book.disk) (λ disk. IsCarried shapes disk samples × IsEncoded shapes disk samples))
            (ap (λ n. take n book.history) all.1 ∙ take_all (length book.history) book.history (omega arith))
            (told_part (tells.content book.disk) (HoldsDurable terms book.history book.marks) (λ disk. IsCarried shapes disk marked × IsEncoded shapes disk marked)
            (λ disk is. (is.0, is.1)) holds);
        blocks = told_part (tells.content book.disk) (HoldsDurable terms book.history book.marks) (HasBlocksOf script.plan.block) (λ disk is. is.2) holds;
      }

  pub closed_run : IsRecorded script head file.start closed → AreAccepted script closed accepted.items → live ≡ live_of script.plan.live problem (length book.history)
      → WereSeen script closed seen → CloseComes script file.faults closed seen problem
      → HasRun tells script file (outcome tells recorded.out recorded.history.items recorded.marks.items) recorded.end
  closed_run is accepted_are live_is saw comes = record {
    comes = rw (closes.end_is) (record {
      recorded = rw (closes.disk, closes.history, closes.marks) is;
      accepted_is = rw (closes.disk, closes.history, closes.marks) accepted_are;
      samples_is = ap length (sym closes.history);
      durable_is = ap durable (sym closes.marks);
      live_is = live_is ∙ ap (λ (h : List Sample). live_of script.plan.live problem (length h)) (sym closes.history);
      saw = rw (closes.disk, closes.history, closes.marks) saw;
      comes = rw (closes.disk, closes.history, closes.marks) comes;
    });
    asked_is = ap tells.asked closes.disk ∙ closes.asked_is ∙ ap (λ (t : Terms). t.asked) terms_are;
    told = ap (λ d. is_some (tells.story d)) closes.disk ∙ closes.told ∙ ap (λ (t : Terms). t.told) terms_are;
  }

module _ {D N : Type 0} (tells : DiskOf D) (shows : ViewOf Audience N)
    (script : Script) (file : Gated D) (view : Audience)
    (begun driven flushed : Account D Audience) (accepted : Stock ℕ) (result : Result Unit End) (problem : Option Fault) (note : Option Note) (live : Option ℕ) (seen : List (List Sample)) (recorded : Recorded D)
    (which_is : MatchBool script.plan.live (0 < shows.which view) (shows.which view ≡ 0))
    (begins : HasBegun tells shows file script.plan.shapes script.plan.block script.plan.session view begun)
    (same : driven.terms ≡ begun.terms)
    (owned : AreOwned script.plan.owners (length script.plan.shapes) script.plan.sources driven.history)
    (caused : MarksCaused (AskedFor script.plan.owners 0 (map feds_of script.lists) driven.history) (DueFor (map feds_of script.lists)) begun.terms.layouts begun.terms.block_limit driven.history begun.marks driven.marks)
    (last : MarksLast driven flushed) (ran : RanAll script.plan.owners driven seen script.lists accepted.items result) (seen_count : length seen ≡ length script.lists)
    (finishes : Finishes driven flushed script.plan.live result problem note) (live_is : live ≡ counted note) (closes : Closes tells flushed accepted live problem seen recorded) where
  abbrev owners : List ℕ
  owners = script.plan.owners

  terms_are : flushed.terms ≡ begun_terms tells shows script file view
  terms_are = finishes.steps.terms ∙ same ∙ begins.terms

  abbrev left : Outcome
  left = outcome tells flushed.disk flushed.history flushed.marks

  -- each source, in the book as it is at the end
  all : AllRan owners flushed seen 0 (map feds_of script.lists) ran.all
  all = all_later driven flushed finishes.steps owners seen 0 (map feds_of script.lists) ran.all ran.each

  at_source : (s : ℕ) (tasks : List Task) → slice_get script.lists s ≡ Some tasks → RanAt owners flushed seen s tasks ran.all s
  at_source s tasks there = ran_of owners flushed seen script.lists ran.all all s tasks there

  recorded_is : IsRecorded script (head_of (tells.story file.disk) file.first) file.start left
  recorded_is = closed_recorded tells shows script file view flushed accepted live problem seen recorded terms_are closes
      (subst (AreOwned owners (length script.plan.shapes) script.plan.sources) (sym (finishes.steps.history ∙ append-nil driven.history)) owned)
      (λ s tasks there. let at = at_source s tasks there in own_begins owners flushed s (get_or seen s []) tasks at.driven at.ran)
      (λ s tasks there. let at = at_source s tasks there in own_flushes owners flushed s (get_or seen s []) tasks at.driven at.ran)
      (have_causes script (record { moment = tells.moment file.disk; through = 0 }) begun.marks driven.marks flushed.marks driven.history flushed.history begins.marks refl
      (subst (λ (t : Terms). MarksCaused (AskedFor owners 0 (map feds_of script.lists) driven.history) (DueFor (map feds_of script.lists)) t.layouts t.block_limit driven.history begun.marks driven.marks) begins.terms caused)
      (finishes.steps.history ∙ append-nil driven.history) last)

  accepted_are : AreAccepted script left accepted.items
  accepted_are = record {
    count = ap length ran.accepted_is ∙ accepted-length owners flushed seen script.lists ran.all all;
    each = λ s tasks there. let at = at_source s tasks there in
        ap (λ counts. slice_get counts s) ran.accepted_is ∙ at.accepted_is ∙ ap Some (at.ran.counted ∙ ap length (sym at.ran.own));
  }

  saved : IsAllDurable flushed → IsSaved script.plan left
  saved = closed_saved tells shows script file view flushed accepted live problem seen recorded terms_are closes

  -- all tasks were done
  completes : (r : Result Unit End) → result ≡ r → IsOk r → IsAllDurable flushed → IsComplete script left
  completes (Ok u) is ok durable_all = record {
    whole = λ s tasks there.
        let at = at_source s tasks there in
        let ran_all = whole_ran owners flushed s (get_or seen s []) tasks at.driven (each_done (ends_of ran.all) u (sym is ∙ ran.told) s (told_of at.driven.ended) at.how_is) at.ran in
        record { history_is = ran_all.0; flush_lines = ran_all.1 };
    groups = λ s tasks there group owner.
        let at = at_source s tasks there in
        let ran_all = whole_ran owners flushed s (get_or seen s []) tasks at.driven (each_done (ends_of ran.all) u (sym is ∙ ran.told) s (told_of at.driven.ended) at.how_is) at.ran in
        sym (group_of_source owners flushed.history group) ∙ ap (λ n. group_samples (source_samples owners flushed.history n) group) owner
        ∙ ap (λ h. group_samples h group) ran_all.0;
    cost = recorded_is.cost;
    saved = saved durable_all;
  }
  completes (Err e) is ok durable_all = absurd (true≢false (sym ok))

  -- how a source ended, where the disk did not fail
  next_there : (s : ℕ) (saw : List Sample) (tasks : List Task) (driven : Driven) (r : RanTasks owners flushed s saw tasks driven) (sample : Sample) → Fed.IsNext (feds_of r.rest) sample
      → IsNext script left s tasks sample
  next_there s saw tasks driven r sample next =
      let next_is = next_task r.rest sample next in
      ap (λ own. slice_get (samples_of tasks) (length own)) r.own
      ∙ ap (λ ss. slice_get ss (length (samples_of r.done)))
      (ap samples_of (sym r.parts) ∙ samples_of-append r.done r.rest ∙ ap (λ ts. samples_of r.done ++ samples_of ts) next_is.1)
      ∙ at_seam (samples_of r.done) sample (samples_of next_is.0)

  -- what it had seen
  has_seen : (s : ℕ) (saw : List Sample) (tasks : List Task) (driven : Driven) → RanTasks owners flushed s saw tasks driven → HasSeen script left s tasks saw
  has_seen s saw tasks driven r = record {
    begins = r.begins;
    all_own = r.all_own ∙ sym r.own;
    flush_lines = seen_flushes owners flushed s saw tasks driven r;
  }

  have_seen : HaveSeen script left seen
  have_seen = record {
    count = seen_count;
    each = λ s tasks there. let at = at_source s tasks there in has_seen s (get_or seen s []) tasks at.driven at.ran;
  }

  -- its work ended there
  ended_at : (s : ℕ) (saw : List Sample) (tasks : List Task) (driven : Driven) (r : RanTasks owners flushed s saw tasks driven) (sample : Sample)
      → Fed.IsNext (feds_of r.rest) sample → EndedAt script left s tasks saw
  ended_at s saw tasks driven r sample next = record {
    sample = sample;
    next = next_there s saw tasks driven r sample next;
    saw = has_seen s saw tasks driven r;
  }

  source_comes : IsAllDurable flushed → (s : ℕ) (saw : List Sample) (tasks : List Task) (n : ℕ) (how : Ended)
      → RanTasks owners flushed s saw tasks (record { accepted = n; ended = how }) → SourceComes script left s tasks saw (told_of how)
  unfolding ended_at
  source_comes durable_all s saw tasks n work.Running r = absurd r.ends
  source_comes durable_all s saw tasks n work.Done r =
      let whole = whole_ran owners flushed s saw tasks (record { accepted = n; ended = work.Done }) tt r in record { history_is = whole.0; flush_lines = whole.1 }
  source_comes durable_all s saw tasks n (work.SessionFull held size limit) r = record {
    at = ended_at s saw tasks (record { accepted = n; ended = work.SessionFull held size limit }) r r.ends.sample r.ends.next;
    held_is = r.ends.held_is ∙ ap (λ (t : Terms). history_cost t.layouts saw) terms_are;
    size_is = r.ends.size_is ∙ ap (λ (t : Terms). cost_of t.layouts r.ends.sample) terms_are;
    limit_is = r.ends.limit_is ∙ ap (λ (t : Terms). t.session_limit) terms_are;
    over = r.ends.over;
  }
  source_comes durable_all s saw tasks n (work.Stopped mark) r = absurd (true≢false (sym r.ends.0 ∙ durable_all.0))
  source_comes durable_all s saw tasks n (work.DiskFault before after) r = absurd (true≢false (sym r.ends.0 ∙ durable_all.0))
  source_comes durable_all s saw tasks n work.Memory r = record {
    at = ended_at s saw tasks (record { accepted = n; ended = work.Memory }) r r.ends.sample r.ends.next;
    room = subst (λ (t : Terms). history_cost t.layouts saw + cost_of t.layouts r.ends.sample ≤ t.session_limit) terms_are r.ends.room;
  }

  ends_are : IsAllDurable flushed → AreEnds script left seen (ends_of ran.all)
  ends_are durable_all = record {
    count = hows-length owners flushed seen script.lists ran.all all;
    each = λ s tasks there. let at = at_source s tasks there in
        subst (λ found. IfSome found (SourceComes script left s tasks (get_or seen s []))) (sym at.how_is)
        (source_comes durable_all s (get_or seen s []) tasks at.driven.accepted at.driven.ended at.ran);
    saved = saved durable_all;
  }

  -- the first source that had no room
  fills : (held size limit : ℕ) → result ≡ Err (end_.SessionFull held size limit) → IsAllDurable flushed → IsFull script left seen held size limit
  fills held size limit is durable_all =
      let found = first_full (ends_of ran.all) held size limit (sym ran.told ∙ is) in
      record { ends = (ends_of ran.all); are = ends_are durable_all; source = found.source; told = found.told; first = found.first }

  -- a source for whose sample memory was wanted
  wants : result ≡ Err end_.Memory → IsAllDurable flushed → IsShort script left seen
  wants is durable_all =
      let found = worst_err (ends_of ran.all) end_.Memory (sym ran.told ∙ is) in
      record { ends = (ends_of ran.all); are = ends_are durable_all; source = found.0; wanted = found.1; room = all_room (ends_of ran.all) (sym ran.told ∙ is) }

  -- memory was wanted for a sample, or for the view
  short : IsAllDurable flushed → (result ≡ Err end_.Memory) ⊎ WantsToShow flushed script.plan.live result
      → IsShort script left seen ⊎ (IsUnshown script left ⊎ IsIdle script left)
  short durable_all (inl is) = inl (wants is durable_all)
  short durable_all (inr unshown) = inr (inl (unshown.1, completes result refl unshown.0 durable_all, omega (arith, unshown.2)))

  ended : (problem' : Option Fault) → FinishEnds flushed script.plan.live result problem' → CloseComes script file.faults left seen problem'
  ended None ends = completes result refl ends.0 ends.1
  ended (Some fault.Device) ends = subst (λ (t : Terms). Rose t.faults (tells.faults flushed.disk)) terms_are (closes.cause ends)
  ended (Some (fault.SessionFull held size limit)) ends = fills held size limit ends.0 ends.1
  ended (Some fault.Memory) ends = short ends.1 ends.0
  ended (Some _) ends = absurd ends

  pub has_run : HasRun tells script file (outcome tells recorded.out recorded.history.items recorded.marks.items) recorded.end
  has_run = closed_run tells shows script file view flushed accepted live problem seen recorded terms_are closes recorded_is accepted_are
      (live_is ∙ live_comes script.plan.live problem (shows.which view) flushed.history note which_is
      (subst (λ (t : Terms). NoteComes problem script.plan.live t.which flushed.history note) terms_are finishes.noted))
      (inl have_seen) (ended problem finishes.ends)

-- of a story that is not told nothing is known to be left
none_left : (s : Option Story) (t : ℕ) (file : List ℕ) → s ≡ None → ¬ LeftSince s t file
none_left s t file is may = absurd (subst (λ r. LeftSince r t file) is may)

-- of a disk that tells its story the head and the moment of the start are known; of another nothing is said
pub recorded_told : (script : Script) (front front' : List ℕ) (s middle first : Option Story) (start start' : ℕ) (outcome' : Outcome) → outcome'.disk.story ≡ s
    → is_some s ≡ is_some middle → is_some middle ≡ is_some first → IfSome middle (λ _. front ≡ front') → IfSome first (λ _. start ≡ start')
    → IsRecorded script front start outcome' → IsRecorded script front' start' outcome'
recorded_told script front front' None middle first start start' outcome' is told told' front_is start_is recorded = record {
  marks_hold = λ k mark within. let hold = recorded.marks_hold k mark within in
      record { past = hold.past; within = hold.within; carries = λ file may. absurd (none_left outcome'.disk.story (get_or outcome'.marks k mark).moment file is may) };
  start_holds = λ file may. absurd (none_left outcome'.disk.story start' file is may);
  marks_rise = recorded.marks_rise;
  owned = recorded.owned;
  own_prefix = recorded.own_prefix;
  flush_lines = recorded.flush_lines;
  causes = recorded.causes;
  cost = recorded.cost;
  pending = recorded.pending;
}
recorded_told script front front' (Some s) (Some middle) (Some first) start start' outcome' is told told' front_is start_is recorded =
    subst (λ h. IsRecorded script h start' outcome') front_is (subst (λ n. IsRecorded script front n outcome') start_is recorded)
recorded_told script front front' (Some s) None first start start' outcome' is told told' front_is start_is recorded = absurd (true≢false told)
recorded_told script front front' (Some s) (Some middle) None start start' outcome' is told told' front_is start_is recorded = absurd (true≢false told')

-- a fault of the disk since an earlier count
close_earlier : (script : Script) (earlier faults : ℕ) (left : Outcome) (seen : List (List Sample)) (problem : Option Fault) → earlier ≤ faults
    → CloseComes script faults left seen problem → CloseComes script earlier left seen problem
close_earlier script earlier faults left seen None later comes = comes
close_earlier script earlier faults left seen (Some fault.Device) later comes = omega (arith, later, comes)
close_earlier script earlier faults left seen (Some problem) later comes = comes

-- what was recorded into a file that was made on a disk
pub record_comes : {C : Type 0} (tells : DiskOf C) (Says : Script → Type 0) (Refuses : Fault → Type 0) (name : List ℕ) (now : ℕ) (out : C) (script : Script) (file : Gated C) (left : Outcome) (end : RecordEnd)
    → Says script → IsScript script → IsReadHead script.plan.form now script.plan.rows → tells.asked file.disk ≡ Some (name, Create) → HoldsSince (tells.story file.disk) (tells.moment out) (IsBegun (script_head now script))
    → IfSome (tells.story file.disk) (λ _. head_of (tells.story file.disk) file.first ≡ script_head now script) → is_some (tells.story file.disk) ≡ is_some (tells.story out)
    → IfSome (tells.story out) (λ _. file.start ≡ tells.moment out) → tells.faults out ≤ file.faults → IsMade (script_head now script) (state_of tells file.disk) → HasRun tells script file left end
    → RecordComes Says Refuses name now (state_of tells out) left end
record_comes tells Says Refuses name now out script file left end says is_script readable asked_is begun head_is told start_is later made run = of_end end run.comes where
  of_end : (e : RecordEnd) → RunComes script (state_of tells file.disk) (head_of (tells.story file.disk) file.first) file.start file.faults left e
      → RecordComes Says Refuses name now (state_of tells out) left e
  of_end (Refused problem) comes = record {
    history = comes.2;
    marks = comes.3;
    comes = inr (record {
      script = script;
      says = says;
      begun = subst (λ (d : DiskState). HoldsSince d.story (tells.moment out) (IsBegun (script_head now script))) (sym comes.1) begun;
      comes = subst (FileFaultComes (script_head now script) (state_of tells out) left.disk) (sym comes.0)
          (inr (subst (IsMade (script_head now script)) (sym comes.1) made));
      asked_is = inr (run.asked_is ∙ asked_is);
    });
  }
  of_end (Closed accepted samples last live problem seen) comes = record {
    script = script;
    says = says;
    is_script = is_script;
    readable = readable;
    recorded = recorded_told script (head_of (tells.story file.disk) file.first) (script_head now script) left.disk.story (tells.story file.disk) (tells.story out)
        file.start (tells.moment out) left refl run.told told head_is start_is comes.recorded;
    accepted_is = comes.accepted_is;
    samples_is = comes.samples_is;
    durable_is = comes.durable_is;
    live_is = comes.live_is;
    saw = comes.saw;
    comes = close_earlier script (tells.faults out) file.faults left seen problem later comes.comes;
    asked_is = run.asked_is ∙ asked_is;
  }

-- what a recording leaves of a script, in other words for what that says
pub comes_as : (Says Says' : Script → Type 0) (Refuses Refuses' : Fault → Type 0) → ((script : Script) → Says script → Says' script)
    → ((problem : Fault) → Refuses problem → Refuses' problem) → (name : List ℕ) (now : ℕ) (disk : DiskState) (left : Outcome) (end : RecordEnd)
    → RecordComes Says Refuses name now disk left end → RecordComes Says' Refuses' name now disk left end
comes_as Says Says' Refuses Refuses' says refuses name now disk left (Refused problem) comes = record {
  history = comes.history;
  marks = comes.marks;
  comes = ⊎_elim
      (λ unread. inl (record { comes = refuses problem unread.comes; same = unread.same; begun = unread.begun }))
      (λ unmade. inr (record {
        script = unmade.script;
        says = says unmade.script unmade.says;
        begun = unmade.begun;
        comes = unmade.comes;
        asked_is = unmade.asked_is;
      }))
      comes.comes;
}
comes_as Says Says' Refuses Refuses' says refuses name now disk left (Closed accepted samples last live problem seen) comes = record {
  script = comes.script;
  says = says comes.script comes.says;
  is_script = comes.is_script;
  readable = comes.readable;
  recorded = comes.recorded;
  accepted_is = comes.accepted_is;
  samples_is = comes.samples_is;
  durable_is = comes.durable_is;
  live_is = comes.live_is;
  saw = comes.saw;
  comes = comes.comes;
  asked_is = comes.asked_is;
}

-- what holds of an answer that is `Ok`, and of a fault
pub of_ok : {A E : Type 0} (P : A → Type 0) (answer : Result A E) (x : A) → IfOk answer P → answer ≡ Ok x → P x
of_ok P answer x holds is = subst (λ a. IfOk a P) is holds

pub of_err : {A E : Type 0} (P : E → Type 0) (answer : Result A E) (x : E) → IfErr answer P → answer ≡ Err x → P x
of_err P answer x holds is = subst (λ a. IfErr a P) is holds

-- a disk that was asked for something was not asked for nothing
pub was_asked : {X : Type 0} (asked : Option X) (x : X) → asked ≡ Some x → ¬ (asked ≡ None)
was_asked asked x is none = cc

-- what a crash leaves of a disk that was asked for nothing, and then was attached
pub begun_since : (head : List ℕ) (story attached now : Option Story) (content : Option (List ℕ)) (clock : ℕ) → Agrees story content clock → IsFresh story
    → attached ≡ story → Adds attached now (IsBegun head) → HoldsSince now clock (IsBegun head)
begun_since head story attached now content clock agrees fresh same adds =
    begun_holds head story now content clock agrees fresh (subst (λ s. Adds s now (IsBegun head)) same adds)

-- of a disk that was asked for nothing a crash leaves no MDF file
pub fresh_begun : (head : List ℕ) (story : Option Story) (content : Option (List ℕ)) (clock : ℕ) → Agrees story content clock → IsFresh story
    → HoldsSince story clock (IsBegun head)
fresh_begun head story content clock agrees fresh = begun_since head story story story content clock agrees fresh refl (adds_none story (IsBegun head))

-- on a disk that was asked for nothing no file was made, for want of memory
pub unmade : {C : Type 0} (tells : DiskOf C) (name head : List ℕ) (out : C) → tells.asked out ≡ None → Agrees (tells.story out) (tells.content out) (tells.moment out)
    → IsFresh (tells.story out) → IsUnmade name head (state_of tells out) (state_of tells out) fault.Memory
unmade tells name head out asked agrees fresh =
    record { asked_is = inl asked; begun = fresh_begun head (tells.story out) (tells.content out) (tells.moment out) agrees fresh; comes = inl refl }

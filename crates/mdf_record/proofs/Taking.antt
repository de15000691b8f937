-- What a recording of feeds leaves, when all have worked at a book that was flushed and closed since.
use Rattle.std.proofs.Common.{◌≡◌, ◌≤◌, ◌<◌, ℕ, suc, true, false, true≢false, List, [], ◌∷◌, length, map, All, Option, Some, None, Result, Ok, Err, refl, sym, ◌∙◌, ap, subst, append-nil}
use Rattle.std.specs.Prelude.{IsOk, MatchBool, slice_get}
use Rattle.std.specs.List.{slice_index_or}
use Rattle.std.proofs.lemmas.List.Elements.{All-cons, All-nil}
use mathlib.Core.List.{IsPrefix}
use Rattle.mdf_format.specs.Cause.{Rose}
use Rattle.mdf_layout.specs.History.{source_samples}
use Rattle.mdf_layout.specs.declared.sample.Sample.{Sample}
use Rattle.mdf_gate.specs.Gated.{Gated}
use Rattle.book_owned.specs.Members.{DiskOf}
use Rattle.book_owned.specs.declared.view.Shown.{Ghosts as ViewOf}
use Rattle.book_owned.specs.Account.{Account, Terms}
use Rattle.book_owned.specs.Begun.{HasBegun}
use Rattle.acq_run.specs.declared.feed.Fed.{Fed}
use Rattle.acq_run.specs.Works.{HasRoomNext, IsOver}
use Rattle.acq_run.specs.Ran.{AllHeard, AllRan, AreOwned, EndsIn, Ran, WasLast}
use Rattle.acq_run.specs.Watching.{Hears}
use Rattle.acq_run.specs.declared.audience.Audience.{Audience}
use Rattle.acq_run.specs.declared.watcher.Watcher.{Watcher}
use Rattle.acq_run.specs.declared.work.Driven.{Driven}
use Rattle.acq_run.specs.declared.work.Ended.{Ended}
use Rattle.acq_run.specs.declared.work.Ended.TheVariants as work
use Rattle.acq_run.proofs.Doing.{marked_later}
use Rattle.acq_run.proofs.Later.{all_later, ends_later}
use Rattle.acq_script.specs.Stage.{IsScript}
use Rattle.acq_script.specs.declared.script.Plan.{Plan}
use Rattle.acq_script.specs.declared.script.Task.{Task}
use Rattle.mdf_command.specs.declared.fault.Fault.{Fault}
use Rattle.mdf_command.specs.declared.fault.Fault.TheVariants as fault
use Rattle.mdf_record.specs.Feeds.{AllTaken, EndsAt, GoOn, HadDisk, HasTaken, HaveTaken, IsClosedWith}
use Rattle.mdf_record.specs.Finish.{FinishEnds}
use Rattle.mdf_record.specs.Record.{Outcome, outcome}
use Rattle.mdf_record.specs.Recorded.{HasRun}
use Rattle.mdf_record.specs.Sources.{ends_of, feds_of, told_of}
use Rattle.mdf_record.specs.Work.{HasWorked}
use Rattle.mdf_record.specs.declared.feeds.RecordedFeeds.{RecordedFeeds}
use Rattle.mdf_record.specs.declared.sources.End.{End}
use Rattle.mdf_record.proofs.Handing.{all_longer, marks_longer}
use Rattle.mdf_record.proofs.Recording.{has_run}
use Rattle.mdf_record.proofs.Runs.{IsDone, each_done}

-- a source that has done all ended with its feed
done_so : {D V : Type 0} (book : Account D V) (seen : List Sample) (rest : List Fed) (how : Ended) → IsDone (told_of how) → EndsIn book seen rest how → how ≡ work.Done
done_so book seen rest work.Running done ends = absurd ends
done_so book seen rest work.Done done ends = refl
done_so book seen rest (work.SessionFull held size limit) done ends = absurd done
done_so book seen rest (work.Stopped mark) done ends = absurd done
done_so book seen rest (work.DiskFault less more) done ends = absurd done
done_so book seen rest work.Memory done ends = absurd done

-- where the book is not stopped no work ended by the disk
had_disk : {D V : Type 0} (book : Account D V) (seen : List Sample) (rest : List Fed) (how : Ended) → book.stopped ≡ false → EndsIn book seen rest how → HadDisk how
had_disk book seen rest work.Running going ends = tt
had_disk book seen rest work.Done going ends = tt
had_disk book seen rest (work.SessionFull held size limit) going ends = tt
had_disk book seen rest (work.Stopped mark) going ends = absurd (true≢false (sym ends.0 ∙ going))
had_disk book seen rest (work.DiskFault less more) going ends = absurd (true≢false (sym ends.0 ∙ going))
had_disk book seen rest work.Memory going ends = tt

module _ {D V : Type 0} (owners : List ℕ) (book : Account D V) (seen : List (List Sample)) where
  -- of all, by how the work of each ended
  each_how : (P : Ended → Type 0) (Q : Ended → Type 0) → ((saw : List Sample) (rest : List Fed) (how : Ended) → Q how → EndsIn book saw rest how → P how)
      → (source : ℕ) (handed : List (List Fed)) (all : List Driven) → ((s : ℕ) (driven : Driven) → slice_get all s ≡ Some driven → Q driven.ended)
      → AllRan owners book seen source handed all → All (λ (driven : Driven). P driven.ended) all
  each_how P Q so source [] [] each ran = All-nil (λ (driven : Driven). P driven.ended)
  each_how P Q so source [] (driven ∷ all) each ran = absurd ran
  each_how P Q so source (feds ∷ handed) [] each ran = absurd ran
  each_how P Q so source (feds ∷ handed) (driven ∷ all) each ran =
      All-cons (λ (one : Driven). P one.ended) driven all
      (so (slice_index_or seen source []) ran.0.rest driven.ended (each 0 driven refl) ran.0.ends)
      (each_how P Q so (suc source) handed all (λ s one there. each (suc s) one there) ran.1)

-- the end of a source that is told
told_at : (all : List Driven) (s : ℕ) (driven : Driven) → slice_get all s ≡ Some driven → slice_get (ends_of all) s ≡ Some (told_of driven.ended)
told_at [] ℕ.zero driven there = absurd (cc there)
told_at [] (suc s) driven there = absurd (cc there)
told_at (one ∷ all) ℕ.zero driven there = ap Some (ap (λ (d : Driven). told_of d.ended) (same one driven there)) where
  same : (x y : Driven) → slice_get (x ∷ all) 0 ≡ Some y → x ≡ y
  same x y is = cc is
told_at (one ∷ all) (suc s) driven there = told_at all s driven there

-- the lists go on from themselves
go_on_same : {D V : Type 0} (owners : List ℕ) (book : Account D V) (seen : List (List Sample)) (source : ℕ) (handed : List (List Fed)) (all : List Driven)
    → AllRan owners book seen source handed all → GoOn handed all handed
go_on_same owners book seen source [] [] ran = tt
go_on_same owners book seen source [] (driven ∷ all) ran = absurd ran
go_on_same owners book seen source (feds ∷ handed) [] ran = absurd ran
go_on_same owners book seen source (feds ∷ handed) (driven ∷ all) ran =
    (([], append-nil feds, λ is. refl), go_on_same owners book seen (suc source) handed all ran.1)

-- the sources worked at a book that was begun over the plan
module _ {D N F : Type 0} (tells : DiskOf D) (shows : ViewOf Audience N) (hands : F → List Fed → F → Type 0) (waits : F → Fed → Type 0) (ends : F → Type 0) (plan : Plan)
    (file : Gated D) (view : Audience) (begun : Account D Audience) (feeds : List F) (result : RecordedFeeds D F)
    (which_is : MatchBool plan.live (0 < shows.which view) (shows.which view ≡ 0))
    (begins : HasBegun tells shows file plan.shapes plan.block plan.session view begun) (count : length feeds ≡ plan.sources)
    (worked : HasWorked tells hands waits ends plan.owners begun feeds plan.live result) where
  abbrev handed : List (List Fed)
  handed = worked.worked.handed

  abbrev all : List Driven
  all = result.all.items

  abbrev left : Outcome
  left = outcome tells result.recorded.out result.recorded.history.items result.recorded.marks.items

  abbrev flushed : Account D Audience
  flushed = worked.flushed

  -- it was recorded of each script whose lists go on from there
  pub run_of : (lists : List (List Task)) → IsScript (record { plan = plan; lists = lists }) → GoOn handed all (map feds_of lists)
      → HasRun tells (record { plan = plan; lists = lists }) file left result.recorded.end
  run_of lists is_script on =
      let layouts : begun.terms.layouts ≡ plan.shapes = ap (λ (t : Terms). t.layouts) begins.terms in
      has_run tells shows (record { plan = plan; lists = lists }) file view begun worked.driven worked.flushed worked.accepted worked.ended worked.fault worked.note worked.shown
      worked.seen result.recorded which_is begins worked.terms
      (subst (λ ls. AreOwned plan.owners (length ls) plan.sources worked.driven.history) layouts
      (subst (λ n. AreOwned plan.owners (length begun.terms.layouts) n worked.driven.history) count worked.owned))
      (marks_longer plan.owners worked.driven.history handed (map feds_of lists) all on begun.terms.layouts begun.terms.block_limit begun.marks worked.driven.marks worked.worked.marks)
      worked.last
      (record {
        all = all;
        each = all_longer plan.owners worked.driven worked.seen 0 handed (map feds_of lists) all on worked.worked.ran;
        accepted_is = worked.accepted_is;
        told = worked.told;
      })
      (worked.saw ∙ count ∙ sym is_script.lists) worked.finishes worked.shown_is worked.closes

  -- each source, in the book as it is at the end
  ran : AllRan plan.owners flushed worked.seen 0 handed all
  ran = all_later worked.driven flushed worked.finishes.steps plan.owners worked.seen 0 handed all worked.worked.ran

  terms_are : flushed.terms ≡ begun.terms
  terms_are = worked.finishes.steps.terms ∙ worked.terms

  layouts_are : flushed.terms.layouts ≡ plan.shapes
  layouts_are = ap (λ (t : Terms). t.layouts) (terms_are ∙ begins.terms)

  session_is : flushed.terms.session_limit ≡ plan.session
  session_is = ap (λ (t : Terms). t.session_limit) (terms_are ∙ begins.terms)

  rose : flushed.stopped ≡ true → Rose file.faults left.disk.faults
  rose stopped =
      subst (λ (out : D). Rose file.faults (tells.faults out)) (sym worked.closes.disk)
      (subst (λ (t : Terms). Rose t.faults (tells.faults flushed.disk)) (terms_are ∙ begins.terms) (worked.closes.cause stopped))

  ends_at : (saw : List Sample) (rest : List Fed) (how : Ended) → EndsIn flushed saw rest how → EndsAt plan file.faults left saw rest how
  ends_at saw rest work.Running is = absurd is
  ends_at saw rest work.Done is = is
  ends_at saw rest (work.SessionFull held size limit) is =
      subst (λ n. IsOver plan.shapes n saw rest held size limit) session_is (subst (λ ls. IsOver ls flushed.terms.session_limit saw rest held size limit) layouts_are is)
  ends_at saw rest (work.Stopped mark) is = (rose is.0, subst (λ marks. WasLast marks mark) (sym worked.closes.marks) is.1)
  ends_at saw rest (work.DiskFault less more) is = (rose is.0, is.1)
  ends_at saw rest work.Memory is =
      subst (λ n. HasRoomNext plan.shapes n saw rest) session_is (subst (λ ls. HasRoomNext ls flushed.terms.session_limit saw rest) layouts_are is)

  history_is : left.history ≡ worked.driven.history
  history_is = worked.closes.history ∙ worked.finishes.steps.history ∙ append-nil worked.driven.history

  taken : (source : ℕ) (saw : List Sample) (feds : List Fed) (driven : Driven) (feed' : F) (did : Ran plan.owners worked.driven source saw feds driven) → length did.rest ≤ 1
      → ((task : Fed) → did.rest ≡ task ∷ [] → waits feed' task) → (did.rest ≡ [] → driven.ended ≡ work.Done) → HasTaken waits plan file.faults left source feds driven feed'
  taken source saw feds driven feed' did one waiting finished =
      let begins_now : IsPrefix saw left.history = subst (IsPrefix saw) (sym history_is) did.begins in
      record {
        done = did.done;
        rest = did.rest;
        parts = did.parts;
        one = one;
        waiting = waiting;
        finished = finished;
        own = ap (λ (h : List Sample). source_samples plan.owners h source) history_is ∙ did.own;
        counted = did.counted;
        marked = marked_later plan.owners source saw left.history worked.driven.marks left.marks [] did.done begins_now
            (subst (IsPrefix worked.driven.marks) (sym worked.closes.marks) worked.finishes.steps.marks) did.marked;
        seen = saw;
        begins = begins_now;
        ends = ends_at saw did.rest driven.ended (ends_later worked.driven flushed worked.finishes.steps saw did.rest driven.ended did.ends);
      }

  all_taken : (source : ℕ) (lists : List (List Fed)) (drivens : List Driven) (feeds' : List F) (first last : List Watcher)
      → AllHeard waits Hears plan.owners worked.driven worked.seen source lists drivens feeds' first last → AllTaken waits plan file.faults left source lists drivens feeds'
  all_taken source [] [] [] first last heard = tt
  all_taken source [] [] (feed ∷ feeds') first last heard = absurd heard
  all_taken source [] (driven ∷ drivens) feeds' first last heard = absurd heard
  all_taken source (feds ∷ lists) [] feeds' first last heard = absurd heard
  all_taken source (feds ∷ lists) (driven ∷ drivens) [] first last heard = absurd heard
  all_taken source (feds ∷ lists) (driven ∷ drivens) (feed ∷ feeds') [] last heard = absurd heard
  all_taken source (feds ∷ lists) (driven ∷ drivens) (feed ∷ feeds') (watcher ∷ first) [] heard = absurd heard
  all_taken source (feds ∷ lists) (driven ∷ drivens) (feed ∷ feeds') (watcher ∷ first) (one ∷ last) heard = (
    taken source (slice_index_or worked.seen source []) feds driven feed heard.0.0 heard.0.1 heard.0.2 heard.0.3,
    all_taken (suc source) lists drivens feeds' first last heard.1,
  )

  -- what went wrong, by the end
  went : (holds : Option Fault → Type 0) → IsClosedWith holds result.recorded.end → holds worked.fault
  went holds = subst (IsClosedWith holds) worked.closes.end_is

  all_well : IsClosedWith (λ problem. problem ≡ None) result.recorded.end → All (λ (driven : Driven). driven.ended ≡ work.Done) all
  all_well well =
      each_how plan.owners flushed worked.seen (λ how. how ≡ work.Done) (λ how. IsDone (told_of how)) (done_so flushed) 0 handed all
      (λ s driven there. told_done (worked.ended) refl (subst (λ problem. FinishEnds flushed plan.live worked.ended problem) (went (λ problem. problem ≡ None) well) worked.finishes.ends).0
      s (told_of driven.ended) (told_at all s driven there)) ran where
        told_done : (r : Result Unit End) → worked.ended ≡ r → IsOk r → (s : ℕ) (how : Result Unit End) → slice_get (ends_of all) s ≡ Some how → IsDone how
        told_done (Ok u) is ok = each_done (ends_of all) u (sym is ∙ worked.told)
        told_done (Err e) is ok = absurd (true≢false (sym ok))

  going : (problem : Option Fault) → (problem ≡ Some fault.Device → ⊥) → FinishEnds flushed plan.live worked.ended problem → flushed.stopped ≡ false
  going None calm is = is.1.0
  going (Some fault.Device) calm is = absurd (calm refl)
  going (Some (fault.SessionFull held size limit)) calm is = is.1.0
  going (Some fault.Memory) calm is = is.1.0
  going (Some _) calm is = absurd is

  all_calm : IsClosedWith (λ problem. problem ≡ Some fault.Device → ⊥) result.recorded.end → All (λ (driven : Driven). HadDisk driven.ended) all
  all_calm calm =
      let goes = going worked.fault (went (λ problem. problem ≡ Some fault.Device → ⊥) calm) worked.finishes.ends in
      each_how plan.owners flushed worked.seen HadDisk (λ how. Unit {0}) (λ saw rest how so is. had_disk flushed saw rest how goes is) 0 handed all (λ s driven there. tt) ran

  pub have_taken : HaveTaken waits ends plan file.faults left result.recorded.end handed all result.feeds.items
  have_taken = record {
    begun = subst (IsClosedWith (λ problem. Unit {0})) (sym worked.closes.end_is) tt;
    ended = worked.worked.ended;
    each = all_taken 0 handed all result.feeds.items worked.watchers worked.watchers' worked.worked.heard;
    well = all_well;
    calm = all_calm;
  }

  pub goes_on : GoOn handed all handed
  goes_on = go_on_same plan.owners worked.driven worked.seen 0 handed all worked.worked.ran

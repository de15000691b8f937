-- What a source did in a part, by its place.
use Rattle.std.proofs.Common.{◌≡◌, ◌≢◌, ◌≤◌, ◌<◌, ◌+◌, ◌⊎◌, ℕ, zero, suc, true, false, List, [], ◌∷◌, ◌++◌, length, map, get_or, slice_get, Option, Some, None, refl, sym, ◌∙◌, ap, subst, inl, inr, ⊎_elim, arith}
use Rattle.std.specs.Prelude.{replicate}
use Rattle.std.proofs.lemmas.Option.{slice_get_within}
use Rattle.mdf_layout.specs.History.{source_samples}
use Rattle.mdf_layout.specs.declared.sample.Sample.{Sample}
use Rattle.acq_run.specs.Feeds.{samples_of}
use Rattle.acq_run.specs.declared.feed.Fed.{Fed}
use Rattle.acq_run.specs.declared.feed.Fed.TheVariants as fed
use Rattle.acq_run.specs.Ran.{AllEnded, AllHanded}
use Rattle.acq_run.specs.Works.{AreMarked}
use Rattle.acq_run.specs.declared.work.Driven.{Driven}
use Rattle.acq_run.specs.declared.work.Ended.{Ended}
use Rattle.acq_run.specs.declared.work.Ended.TheVariants as work
use Rattle.acq_script.specs.declared.script.Plan.{Plan}
use Rattle.mdf_command.specs.declared.fault.Fault.{Fault}
use Rattle.mdf_command.specs.declared.fault.Fault.TheVariants as fault
use Rattle.mdf_disk.specs.State.{DiskState}
use Rattle.mdf_record.specs.Feeds.{AllTaken, AreIdle, EndsAt, HadDisk, HasTaken, HaveTaken, IsClosedWith}
use Rattle.mdf_record.specs.Record.{Outcome}
use Rattle.mdf_record.specs.Sources.{feds_of}
use Rattle.mdf_record.specs.declared.record.RecordEnd.{RecordEnd}
use Rattle.mdf_record.specs.declared.record.RecordEnd.TheVariants.{Refused, Closed}
use Rattle.mdf_log.specs.Part.{PartComes}
use Rattle.mdf_log.specs.Parts.{fault_of, fits_anew}

-- the lists are those of a part, in which a source worked from the one feed to the other, or none did
pub record Moves {F : Type 0} (hands : F → List Fed → F → Type 0) (waits : F → Fed → Type 0) (ends : F → Type 0) (plan : Plan) (left : Outcome) (end : RecordEnd) (lists : List (List Fed))
    (all : List Driven) (source : ℕ) (driven : Driven) (old new : F) : Type 0 where
  pub done : List Fed
  pub rest : List Fed
  pub handed : slice_get lists source ≡ Some (done ++ rest)
  pub one : length rest ≤ 1
  pub own : source_samples plan.owners left.history source ≡ samples_of done
  pub hands_is : hands old (done ++ rest) new
  pub marked : AreMarked plan.owners source left.history left.marks [] done
  pub counted : source < length all → (get_or all source driven).accepted ≡ length (samples_of done)
  pub uncounted : length all ≤ source → done ≡ []
  pub waiting : (task : Fed) → rest ≡ task ∷ [] → waits new task
  pub still : rest ≡ [] → ends new ⊎ (new ≡ old)
  pub well : fault_of end ≡ None → ends new
  pub all_done : fault_of end ≡ None → rest ≡ []
  pub left_is : fits_anew (fault_of end) ≡ true → 0 < length left.history → ((rest ≡ []) × ends new) ⊎ ((sample : Sample) × (rest ≡ fed.Sample sample ∷ []))

some_is : (list feds : List Fed) → Some list ≡ Some feds → list ≡ feds
some_is list feds is = cc

-- no list is one with something in it
not_some : (task : Fed) (rest : List Fed) → [] ≡ task ∷ rest → ⊥
not_some task rest is = absurd (omega (arith, ap length is))

-- the first of what is left, where that is one at most
alone : (rest later : List Fed) (sample : Sample) → length rest ≤ 1 → rest ≡ fed.Sample sample ∷ later → rest ≡ fed.Sample sample ∷ []
alone rest [] sample one is = is
alone rest (task ∷ later) sample one is = absurd (omega (arith, one, ap length is))

-- so many lists with nothing in them
none_at : (n k : ℕ) → k < n → slice_get {X = List Fed} (replicate n []) k ≡ Some []
none_at zero k less = absurd (omega (arith, less))
none_at (suc n) zero less = refl
none_at (suc n) (suc k) less = none_at n k (omega (arith, less))

-- what one of these handed in
handed_at : {F : Type 0} (hands : F → List Fed → F → Type 0) (feeds : List F) (lists : List (List Fed)) (feeds' : List F) → AllHanded hands feeds lists feeds' → (k : ℕ) (d d' : F) → k < length feeds
    → (feds : List Fed) × (slice_get lists k ≡ Some feds) × hands (get_or feeds k d) feds (get_or feeds' k d')
handed_at hands [] lists feeds' handed k d d' less = absurd (omega (arith, less))
handed_at hands (feed ∷ feeds) [] feeds' handed k d d' less = absurd handed
handed_at hands (feed ∷ feeds) (feds ∷ lists) [] handed k d d' less = absurd handed
handed_at hands (feed ∷ feeds) (feds ∷ lists) (feed' ∷ feeds') handed zero d d' less = (feds, refl, handed.0)
handed_at hands (feed ∷ feeds) (feds ∷ lists) (feed' ∷ feeds') handed (suc k) d d' less = handed_at hands feeds lists feeds' handed.1 k d d' (omega (arith, less))

-- as many feeds are left
pub handed_count : {F : Type 0} (hands : F → List Fed → F → Type 0) (feeds : List F) (lists : List (List Fed)) (feeds' : List F) → AllHanded hands feeds lists feeds' → length feeds' ≡ length feeds
handed_count hands [] [] [] handed = refl
handed_count hands [] [] (feed' ∷ feeds') handed = absurd handed
handed_count hands [] (feds ∷ lists) feeds' handed = absurd handed
handed_count hands (feed ∷ feeds) [] feeds' handed = absurd handed
handed_count hands (feed ∷ feeds) (feds ∷ lists) [] handed = absurd handed
handed_count hands (feed ∷ feeds) (feds ∷ lists) (feed' ∷ feeds') handed = ap suc (handed_count hands feeds lists feeds' handed.1)

-- one that worked
taken_at : {F : Type 0} (waits : F → Fed → Type 0) (plan : Plan) (faults : ℕ) (left : Outcome) (first : ℕ) (lists : List (List Fed)) (all : List Driven) (feeds' : List F)
    → AllTaken waits plan faults left first lists all feeds' → (k : ℕ) (d : Driven) (d' : F) → k < length lists → (feds : List Fed) → slice_get lists k ≡ Some feds
    → (k < length all) × (k < length feeds') × HasTaken waits plan faults left (first + k) feds (get_or all k d) (get_or feeds' k d')
taken_at waits plan faults left first [] all feeds' taken k d d' less feds there = absurd (omega (arith, less))
taken_at waits plan faults left first (list ∷ lists) [] feeds' taken k d d' less feds there = absurd taken
taken_at waits plan faults left first (list ∷ lists) (driven ∷ all) [] taken k d d' less feds there = absurd taken
taken_at waits plan faults left first (list ∷ lists) (driven ∷ all) (feed ∷ feeds') taken zero d d' less feds there = (
  omega arith,
  omega arith,
  subst (λ n. HasTaken waits plan faults left n feds driven feed) (omega arith)
      (subst (λ handed. HasTaken waits plan faults left first handed driven feed) (some_is list feds there) taken.0),
)
taken_at waits plan faults left first (list ∷ lists) (driven ∷ all) (feed ∷ feeds') taken (suc k) d d' less feds there =
    let later = taken_at waits plan faults left (suc first) lists all feeds' taken.1 k d d' (omega (arith, less)) feds there in
    (omega (arith, later.0), omega (arith, later.1), subst (λ n. HasTaken waits plan faults left n feds (get_or all k d) (get_or feeds' k d')) (omega arith) later.2)

ended_at : {F : Type 0} (ends : F → Type 0) (all : List Driven) (feeds' : List F) → AllEnded ends all feeds' → (k : ℕ) (d : Driven) (d' : F) → k < length all → (get_or all k d).ended ≡ work.Done
    → ends (get_or feeds' k d')
ended_at ends [] feeds' ended k d d' less done = absurd (omega (arith, less))
ended_at ends (driven ∷ all) [] ended k d d' less done = absurd ended
ended_at ends (driven ∷ all) (feed ∷ feeds') ended zero d d' less done = ended.0 done
ended_at ends (driven ∷ all) (feed ∷ feeds') ended (suc k) d d' less done = ended_at ends all feeds' ended.1 k d d' (omega (arith, less)) done

-- a part that went well was closed, and so was one whose session was full, whose disk did not fail
closed_well : (end : RecordEnd) → fault_of end ≡ None → IsClosedWith (λ problem. problem ≡ None) end
closed_well (Refused problem) well = absurd (some_none well) where
  some_none : Some problem ≡ None → ⊥
  some_none is = cc
closed_well (Closed accepted samples last live problem seen) well = well

closed_other : (end : RecordEnd) → fault_of end ≡ None → IsClosedWith (λ problem. problem ≡ Some fault.Memory → ⊥) end
closed_other (Refused problem) well = absurd (cc well)
closed_other (Closed accepted samples last live problem seen) well = λ memory. absurd (cc (well, memory))

pub full_calm : (problem : Option Fault) → fits_anew problem ≡ true → problem ≡ Some fault.Device → ⊥
full_calm problem full is = false_true (subst (λ p. fits_anew p ≡ true) is full) where
  false_true : false ≡ true → ⊥
  false_true is = cc

closed_calm : (end : RecordEnd) → fault_of end ≢ Some fault.Device → IsClosedWith (λ problem. Unit {0}) end → IsClosedWith (λ problem. problem ≡ Some fault.Device → ⊥) end
closed_calm (Refused problem) calm begun = absurd begun
closed_calm (Closed accepted samples last live problem seen) calm begun = calm

-- how a source is left whose disk did not fail
left_of : {F : Type 0} (ends : F → Type 0) (plan : Plan) (faults : ℕ) (left : Outcome) (seen : List Sample) (rest : List Fed) (new : F) (how : Ended) → length rest ≤ 1
    → (how ≡ work.Done → ends new) → HadDisk how → EndsAt plan faults left seen rest how → ((rest ≡ []) × ends new) ⊎ ((sample : Sample) × (rest ≡ fed.Sample sample ∷ []))
left_of ends plan faults left seen rest new work.Running one ended had at = absurd at
left_of ends plan faults left seen rest new work.Done one ended had at = inl (at, ended refl)
left_of ends plan faults left seen rest new (work.SessionFull held size limit) one ended had at = inr (at.sample, alone rest at.next.later at.sample one at.next.rest_is)
left_of ends plan faults left seen rest new (work.Stopped mark) one ended had at = absurd had
left_of ends plan faults left seen rest new (work.DiskFault before after) one ended had at = absurd had
left_of ends plan faults left seen rest new work.Memory one ended had at = inr (at.sample, alone rest at.next.later at.sample one at.next.rest_is)

module _ {F : Type 0} (hands : F → List Fed → F → Type 0) (waits : F → Fed → Type 0) (ends : F → Type 0) (plan : Plan) (name : List ℕ) (now : ℕ) (disk : DiskState) (left : Outcome) (feeds feeds' : List F)
    (all : List Driven) (end : RecordEnd) (part : PartComes hands waits ends plan name now disk left feeds feeds' all end) where
  abbrev lists : List (List Fed)
  lists = map feds_of part.script.lists

  -- what each of these handed in
  handed : (k : ℕ) (d : F) → k < length feeds → (feds : List Fed) × (slice_get lists k ≡ Some feds) × hands (get_or feeds k d) feds (get_or feeds' k d)
  handed k d less = handed_at hands feeds lists feeds' part.handed k d d less

  -- no source worked
  idle_moves : AreIdle left end feeds feeds' lists all → (k : ℕ) (d : F) (driven : Driven) → k < length feeds
      → Moves hands waits ends plan left end lists all k driven (get_or feeds k d) (get_or feeds' k d)
  idle_moves idle k d driven less =
      let at = handed k d less in
      let there = ap (λ (ls : List (List Fed)). slice_get ls k) idle.nothing ∙ none_at (length feeds) k less in
      record {
        done = [];
        rest = [];
        handed = there;
        one = omega arith;
        own = ap (λ (h : List Sample). source_samples plan.owners h k) idle.empty;
        hands_is = subst (λ feds. hands (get_or feeds k d) feds (get_or feeds' k d)) (some_is at.0 [] (sym at.1 ∙ there)) at.2;
        marked = tt;
        counted = λ within. absurd (omega (arith, within, ap length idle.none));
        uncounted = λ past. refl;
        waiting = λ task is. absurd (not_some task [] is);
        still = λ none. inr (ap (λ fs. get_or fs k d) idle.same);
        well = λ well. absurd (idle.short (closed_other end well));
        all_done = λ well. refl;
        left_is = λ full some. absurd (omega (arith, some, ap length idle.empty));
      }

  -- each has
  taken_moves : HaveTaken waits ends plan disk.faults left end lists all feeds' → (k : ℕ) (d : F) (driven : Driven) → k < length feeds
      → Moves hands waits ends plan left end lists all k driven (get_or feeds k d) (get_or feeds' k d)
  taken_moves have k d driven less =
      let at = handed k d less in
      let worked = taken_at waits plan disk.faults left 0 lists all feeds' have.each k driven d (slice_get_within lists k at.0 at.1) at.0 at.1 in
      let place : 0 + k ≡ k = omega arith in
      let taken = subst (λ n. HasTaken waits plan disk.faults left n at.0 (get_or all k driven) (get_or feeds' k d)) place worked.2 in
      let done = ended_at ends all feeds' have.ended k driven d worked.0 in
      record {
        done = taken.done;
        rest = taken.rest;
        handed = at.1 ∙ ap Some (sym taken.parts);
        one = taken.one;
        own = taken.own;
        hands_is = subst (λ feds. hands (get_or feeds k d) feds (get_or feeds' k d)) (sym taken.parts) at.2;
        marked = taken.marked;
        counted = λ there. taken.counted;
        uncounted = λ past. absurd (omega (arith, past, worked.0));
        waiting = taken.waiting;
        still = λ none. inl (done (taken.finished none));
        well = λ well. done (have.well (closed_well end well) k driven worked.0);
        all_done = λ well. subst (λ (how : Ended). EndsAt plan disk.faults left taken.seen taken.rest how) (have.well (closed_well end well) k driven worked.0) taken.ends;
        left_is = λ full some. left_of ends plan disk.faults left taken.seen taken.rest (get_or feeds' k d) (get_or all k driven).ended taken.one done
            (have.calm (closed_calm end (full_calm (fault_of end) full) have.begun) k driven worked.0) taken.ends;
      }

  pub moves : (k : ℕ) (d : F) (driven : Driven) → k < length feeds → Moves hands waits ends plan left end lists all k driven (get_or feeds k d) (get_or feeds' k d)
  moves k d driven less = ⊎_elim (λ idle. idle_moves idle k d driven less) (λ have. taken_moves have k d driven less) part.did

-- What a seat knows after a flush.
use Rattle.std.proofs.Common.{◌≡◌, ℕ, ◌+◌, ◌<◌, ◌≤◌, Bool, true, false, List, [], ◌∷◌, ◌++◌, length, length-append, take, slice_get, refl, sym, ap, ◌∙◌, subst, inl, inr, ⊎_elim, arith, append-nil}
use Rattle.std.specs.Prelude.{IsSomeAnd, Result, Ok, Err, IfOk, IfErr}
use mathlib.Core.List.{IsPrefix}
use Rattle.std.proofs.lemmas.List.{take_at}
use Rattle.atomic_table.specs.Table.{rest}
use Rattle.mdf_disk.specs.declared.disk.Disk.{Ghosts as DiskOf}
use Rattle.mdf_gate.proofs.Carrying.{prefix_self, prefix_take}
use Rattle.mdf_gate.specs.Gated.{Gated, Buffered}
use Rattle.mdf_layout.specs.declared.sample.Sample.{Sample}
use Rattle.book_owned.specs.Marks.{last_mark, durable}
use Rattle.book_owned.specs.BackHalf.{back_terms}
use Rattle.book_owned.specs.Split.{front_part, back_part}
use Rattle.book_owned.specs.FrontHalf.{FrontTerms, FrontAccount, AreThroughs, DoneTells, FinishTells}
use Rattle.book_owned.specs.declared.mark.Mark.{Mark}
use Rattle.book_owned.specs.declared.view.Shown.{Ghosts as ViewOf}
use Rattle.book_owned.specs.declared.handed.Handed.{Handed}
use Rattle.book_owned.specs.declared.handed.Handed.TheVariants as handed
use Rattle.book_owned.specs.declared.written.Written.{Written}
use Rattle.book_owned.specs.declared.written.Written.TheVariants.{Done, DiskFault, Nothing}
use Rattle.book_owned.specs.declared.answer.Flush.{Flush}
use Rattle.book_owned.specs.declared.answer.Flush.TheVariants as flush
use Rattle.book_shared.specs.Basis.{Basis, Device, free, resting, writing, written, settled, last_word}
use Rattle.book_shared.specs.Rule.{lends_block, AreOwn, KeepsAll, IsWrittenBy}
use Rattle.book_shared.specs.Plays.{Here, recount, at_device, held_of, settled_by, given, given_device, Stays, Does, Holds}
use Rattle.book_shared.specs.Place.{IsSingle}
use Rattle.book_shared.specs.Turns.{Took, Served, Rests, Works}
use Rattle.book_shared.specs.Told.{HasMark, FlushesFirst, FlushesFor, FlushesNow, FlushDoes, FlushesFront, Asks, AreCounts, MeetsFault}
use Rattle.book_shared.specs.Rounds.{HasTaken, HasSeized, HasPending, HasTurned, HasHanded, HasWritten, HasBoth, HasSeen, HasFlushed, IsWrittenAs, Lacks}
use Rattle.book_shared.specs.declared.half.Half.TheVariants.{TheFront, TheBack}
use Rattle.book_shared.specs.declared.half.Answer.{Answer}
use Rattle.book_shared.specs.declared.view.View.{View}
use Rattle.book_shared.proofs.Causing.{marked_once, marked_none, durable_last_of}
use Rattle.book_shared.proofs.Lists.{own_recount, own_between, prefix_within}
use Rattle.book_shared.proofs.Keeps.{seat_of, slot_front, slot_back}
use Rattle.book_shared.proofs.Takings.{carries}
use Rattle.book_shared.proofs.Given.{FrontSteps, leaves_same, left_steps, left_stays, worked, gave_now, adds_none, turning, holds_now, served_given, single_again}
use Rattle.book_shared.proofs.Finishing.{bring_ready, settled_took, answer_in, HasFinished, finished_so, finishes, makes_asked, served_at, recount_same}
use Rattle.book_shared.proofs.Following.{Follows, follows_device, follows_handed, flushed_later}

-- the last mark of some that begin with one that goes through no sample
last_stands : (first : Mark) (marks : List Mark) → (before : List Mark) × (first ∷ marks ≡ before ++ last_mark (first ∷ marks) ∷ [])
last_stands first [] = ([], refl)
last_stands first (mark ∷ marks) = let behind = last_stands mark marks in (first ∷ behind.0, ap (λ ms. first ∷ ms) behind.1)

has_last : (marks : List Mark) → AreThroughs marks → HasMark marks (durable marks)
has_last [] rising = absurd (nothing_there rising.first) where
  nothing_there : IsSomeAnd (slice_get [] 0) (λ (mark : Mark). mark.through ≡ 0) → ⊥
  nothing_there is = is
has_last (first ∷ marks) rising = let last = last_stands first marks in record { before = last.0; mark = last_mark (first ∷ marks); after = []; marks_are = last.1; through_is = refl }

-- fewer are durable, whether the spare block is there or not
lacks_so : (spare : Bool) (few all : ℕ) → (spare ≡ true → few < all) → (spare ≡ false → few < all) → few < all
lacks_so true few all here away = here refl
lacks_so false few all here away = away refl

-- the seat after it gave the front and the device back
pub ended_so : {D V : Type 0} (v u : View) (device : Device) (old new : FrontAccount V) (took : Took v u device old) (asks : Bool) (word : ℕ) (m x : Here D V) → m.0 ≡ u
    → x ≡ seat_of (at_device (given asks m.0 word new) free) [] → x.0 ≡ at_device (given asks (turning v u device old) word new) free
ended_so {D} {V} v u device old new took asks word m x same is =
    ap (λ (seat : Here D V). seat.0) is ∙ ap (λ y. at_device (given asks y word new) free) (same ∙ took.rest)

-- the seat has no turn and not the device
pub rests_ended : {V : Type 0} (v u : View) (device : Device) (old new : FrontAccount V) (asks : Bool) (word : ℕ) → Rests v (at_device (given asks (turning v u device old) word new) free)
rests_ended v u device old new asks word = record {
  calm = refl;
  no_device = refl;
  basis_is = refl;
  single = λ number single. single_again v.basis.owners new.history v.mine number single;
}

module _ {D V N : Type 0} (disk : DiskOf D) (view : ViewOf V N) (v u : View) (device : Device) (old new : FrontAccount V) (took : Took v u device old) (word : ℕ) where
  abbrev then_seat : Bool → View
  then_seat asks = at_device (given asks (turning v u device old) word new) free

  served_then : (asks : Bool) (number : ℕ) → FrontSteps old new [] → IsSingle v number → Served v (then_seat asks) old.history []
  served_then asks number steps single =
      served_at v (given asks (turning v u device old) word new) free old.history []
      (served_given v u device old new took asks word [] number steps single (adds_none v.basis.owners v.mine number))

  -- what the turn did to the front
  front_then : (asks : Bool) (answer : Flush N) → FlushDoes disk view old new answer → FlushesFront disk view (then_seat asks) answer
  front_then asks answer does = record {
    old = old;
    new = new;
    turned = record { found = refl; terms = took.meets.terms; history = refl; marks = refl; stopped = refl };
    does = does;
  }

  -- a flush that was done
  flushed_done : (asks : Bool) (done : HasFinished old new) (number : ℕ) → IsSingle v number → (through shown : ℕ) (note : N) → through ≤ length new.history → HasMark new.marks through
      → AreOwn v.basis.owners (take through new.history) (recount v.basis.owners new.history v.mine) → FlushDoes disk view old new (flush.Done through shown note)
      → length v.seen ≤ through → Asks {N = N} v (then_seat asks) (flush.Done through shown note) → HasFlushed disk view v (then_seat asks) (flush.Done through shown note)
  flushed_done asks done number single through shown note less mark own does seen asked = record {
    flushes = (old.history, served_then asks number done.steps single, (less, mark, own, does.1.4, ap (λ (f : FrontAccount V). f.stopped) does.1.1 ∙ does.1.0));
    noted = subst (λ h. view.tells note v.basis.terms.which (take shown h)) (sym done.history) (subst (λ (t : FrontTerms). view.tells note t.which (take shown old.history)) took.meets.terms does.1.6);
    seen = seen;
    asked = asked;
    rests = rests_ended v u device old new asks word;
    front = front_then asks (flush.Done through shown note) does;
  }

  -- one that met a fault, or a stopped front
  flushed_fault : (done : HasFinished old new) (number : ℕ) → IsSingle v number → (before after : ℕ) → MeetsFault disk old new before after
      → HasFlushed {N = N} disk view v (then_seat true) (flush.DiskFault before after)
  flushed_fault done number single before after fault = record {
    flushes = (old.history, served_then true number done.steps single, (fault.counts.rose, ap (λ (f : FrontAccount V). f.stopped) fault.stops));
    noted = tt;
    seen = tt;
    asked = ap (λ ms. v.asked ++ ms) (marked_none (held_of old) new (ap (λ (f : FrontAccount V). f.marks) fault.stops)) ∙ append-nil v.asked;
    rests = rests_ended v u device old new true word;
    front = front_then true (flush.DiskFault before after) fault;
  }

  pub flushed_stopped : (number : ℕ) → IsSingle v number → (mark : Mark) → FrontSteps old new [] → old.stopped ≡ true → new ≡ old → mark ≡ last_mark old.marks
      → HasFlushed {N = N} disk view v (then_seat false) (flush.Stopped mark)
  flushed_stopped number single mark steps stopped same last = record {
    flushes = (
      old.history,
      served_then false number steps single,
      (last ∙ sym (ap (λ (f : FrontAccount V). last_mark f.marks) same), ap (λ (f : FrontAccount V). f.stopped) same ∙ stopped),
    );
    noted = tt;
    seen = tt;
    asked = append-nil v.asked;
    rests = rests_ended v u device old new false word;
    front = front_then false (flush.Stopped mark) (stopped, same, last);
  }

  -- after a write, whose mark goes through all that the seat had seen
  pub flushed_written : (back : Gated D) (answer : Written) (result : Flush N) (number : ℕ) → IsSingle v number
      → IsWrittenAs disk v.basis back v.seen v.kept answer → AreOwn v.basis.owners v.seen v.mine → FinishTells view old new answer result
      → HasFlushed disk view v (then_seat true) result
  flushed_written back (Done mark block) (flush.Done through shown note) number single by own is =
      let done = finished_so view old new (Done mark block) (flush.Done through shown note) is in
      let made : new.marks ≡ old.marks ++ mark ∷ [] = ap (λ (f : FrontAccount V). f.marks) is.1 in
      let goes : through ≡ length v.seen = is.2 ∙ durable_last_of old.marks mark ∙ by.2 in
      let longer : IsPrefix v.seen new.history = subst (λ h. IsPrefix v.seen h) (sym done.history) took.meets.seen in
      let taken : take through new.history ≡ v.seen = ap (take through) (sym longer.1) ∙ take_at v.seen longer.0 through (sym goes) in
      let counted : recount v.basis.owners new.history v.mine ≡ v.mine = ap (λ h. recount v.basis.owners h v.mine) done.history ∙ recount_same v.basis.owners old.history v.mine took.meets.mine in
      flushed_done true done number single through shown note (omega (arith, goes, ap length longer.1, length-append v.seen longer.0))
      record { before = old.marks; mark = mark; after = []; marks_are = made; through_is = by.2 ∙ sym goes }
      (subst (λ h. AreOwn v.basis.owners h (recount v.basis.owners new.history v.mine)) (sym taken) (subst (λ ps. AreOwn v.basis.owners v.seen ps) (sym counted) own))
      (inr (mark, made), subst (λ ms. DoneTells view old new ms through shown note) (sym made) is) (omega (arith, goes))
      (inr (ap (λ ms. v.asked ++ ms) (marked_once (held_of old) new mark made ∙ ap (λ k. k ∷ []) (by.2 ∙ sym goes))))
  flushed_written back (Done mark block) (flush.DiskFault before after) number single by own is = absurd is
  flushed_written back (Done mark block) (flush.Stopped last) number single by own is = absurd is
  flushed_written back (DiskFault before after block) (flush.Done through shown note) number single by own is = absurd is
  flushed_written back (DiskFault before after block) (flush.DiskFault before' after') number single by own is =
      flushed_fault (finished_so view old new (DiskFault before after block) (flush.DiskFault before' after') is) number single before' after'
      (record { going = is.0; stops = is.1; counts = subst (λ n. AreCounts disk n after') (sym is.2) (subst (λ n. AreCounts disk before n) (sym is.3) by.2) })
  flushed_written back (DiskFault before after block) (flush.Stopped last) number single by own is = absurd is
  flushed_written back Nothing result number single by own is = absurd by

  -- and in a turn that needed no write, where all of the seat's source stand in what was seen, of which so many or more samples were asked for
  module _ (number : ℕ) (single : IsSingle v number) (wanted : ℕ) (seen : List Sample) (later : IsPrefix v.seen seen) (begins : IsPrefix seen old.history) (all : length seen ≤ wanted)
      (own : AreOwn v.basis.owners seen v.mine) where
    flushed_shown : (result : Flush N) → wanted ≤ durable old.marks → FinishTells view old new Nothing result → AreThroughs new.marks → HasFlushed disk view v (then_seat false) result
    flushed_shown (flush.Done through shown note) reached is rising =
        let done = finished_so view old new Nothing (flush.Done through shown note) is in
        let same : new.marks ≡ old.marks = ap (λ (f : FrontAccount V). f.marks) is.1 in
        let counted : recount v.basis.owners new.history v.mine ≡ v.mine = ap (λ h. recount v.basis.owners h v.mine) done.history ∙ recount_same v.basis.owners old.history v.mine took.meets.mine in
        let enough : length seen ≤ through = omega (arith, all, reached, is.2) in
        flushed_done false done number single through shown note (omega (arith, is.2, took.meets.within, ap length done.history))
        (subst (HasMark new.marks) (ap durable same ∙ sym is.2) (has_last new.marks rising))
        (subst (λ h. AreOwn v.basis.owners (take through h) (recount v.basis.owners new.history v.mine)) (sym done.history) (subst (λ ps. AreOwn v.basis.owners (take through old.history) ps) (sym counted)
        (own_between v.basis.owners seen (take through old.history) old.history v.mine (prefix_within seen old.history through begins enough) (prefix_take through old.history) own took.meets.mine)))
        (inl same, subst (λ ms. DoneTells view old new ms through shown note) (sym same) is) (omega (arith, enough, ap length later.1, length-append v.seen later.0))
        (inl (append-nil v.asked))
    flushed_shown (flush.DiskFault before after) reached is rising = absurd is
    flushed_shown (flush.Stopped last) reached is rising = absurd is

    pub flushed_now : (result : Flush N) → FlushesNow view old new wanted (Ok result) → HasFlushed disk view v (then_seat false) result
    flushed_now result now =
        ⊎_elim
        (λ stop. subst (λ answer. HasFlushed disk view v (then_seat false) answer) (sym stop.2)
        (flushed_stopped number single (last_mark old.marks) (left_steps old new [] (leaves_same old new stop.1)) stop.0 stop.1 refl))
        (λ shown. flushed_shown result shown.1 shown.2 shown.3) now

  -- the first turn of a flush
  pub first_flushed : (number : ℕ) → IsSingle v number → (result : Result (Flush N) ℕ) → FlushesNow view old new (length old.history) result
      → IfOk result (λ answer. HasFlushed disk view v (then_seat false) answer)
  first_flushed number single (Ok answer) now = flushed_now number single (length old.history) old.history took.meets.seen (prefix_self old.history) (omega arith) took.meets.mine answer now
  first_flushed number single (Err accepted) now = tt

  pub first_seen : (number : ℕ) → IsSingle v number → (result : Result (Flush N) ℕ) → FlushesNow view old new (length old.history) result
      → IfErr result (λ accepted. HasSeen v (then_seat false) accepted)
  first_seen number single (Ok answer) now = tt
  first_seen number single (Err accepted) now = record {
    history = old.history;
    served = served_then false number (left_steps old new [] (leaves_same old new now.1)) single;
    rests = rests_ended v u device old new false word;
    asked = append-nil v.asked;
    accepted_is = now.2 ∙ ap (λ (f : FrontAccount V). length f.history) (sym now.1);
    met = held_of old;
    found = refl;
    met_is = sym now.2;
    going = now.0;
    lacks = lacks_so old.spare (durable old.marks) (length old.history) now.3 now.4;
  }

-- how many samples a flush was for, after its last turn
module _ {V N : Type 0} (view : ViewOf V N) (v u : View) (device : Device) (old new : FrontAccount V) (word : ℕ) where
  abbrev last_seat : Bool → View
  last_seat asks = at_device (given asks (turning v u device old) word new) free

  -- it needed no write of more
  shown_only : (count wanted : ℕ) → count ≤ wanted → (result : Flush N) → wanted ≤ durable old.marks → FinishTells view old new Nothing result → FlushesFor count (last_seat false) result
  shown_only count wanted less (flush.Done through shown note) reached is = (omega (arith, less, reached, is.2), inl (held_of old, refl, ap (λ (f : FrontAccount V). f.marks) is.1))
  shown_only count wanted less (flush.DiskFault before after) reached is = absurd is
  shown_only count wanted less (flush.Stopped last) reached is = absurd is

  pub shown_for : (count wanted : ℕ) → count ≤ wanted → (result : Flush N) → FlushesNow view old new wanted (Ok result) → FlushesFor count (last_seat false) result
  shown_for count wanted less result now = ⊎_elim
      (λ stop. subst (λ answer. FlushesFor {N = N} count (last_seat false) answer) (sym stop.2) tt)
      (λ shown. shown_only count wanted less result shown.1 shown.2) now

  -- and so it was in its first turn
  pub shown_first : (result : Result (Flush N) ℕ) → FlushesNow view old new (length old.history) result → IfOk result (λ answer. FlushesFirst v (last_seat false) answer)
  shown_first (Ok answer) now = record {
    met = held_of old;
    first = ([], refl);
    flushes = shown_for (length old.history) (length old.history) (omega arith) answer now;
  }
  shown_first (Err accepted) now = tt

  -- it wrote, since fewer were durable
  pub written_for : {D : Type 0} (disk : DiskOf D) (basis : Basis) (back : Gated D) (seen : List Sample) (kept : List Mark) (answer : Written) (result : Flush N)
      → IsWrittenAs disk basis back seen kept answer → FinishTells view old new answer result → old.marks ≡ kept → (count : ℕ) → Lacks seen kept count → FlushesFor count (last_seat true) result
  written_for disk basis back seen kept (Done mark block) (flush.Done through shown note) by is same count lacks =
      (omega (arith, lacks.1, is.2, durable_last_of old.marks mark, by.2), inr (held_of old, refl, omega (arith, lacks.0, ap durable same)))
  written_for disk basis back seen kept (Done mark block) (flush.DiskFault before after) by is same count lacks = absurd is
  written_for disk basis back seen kept (Done mark block) (flush.Stopped last) by is same count lacks = absurd is
  written_for disk basis back seen kept (DiskFault before after block) (flush.Done through shown note) by is same count lacks = absurd is
  written_for disk basis back seen kept (DiskFault before after block) (flush.DiskFault before' after') by is same count lacks = (held_of old, refl, omega (arith, lacks.0, ap durable same))
  written_for disk basis back seen kept (DiskFault before after block) (flush.Stopped last) by is same count lacks = absurd is
  written_for disk basis back seen kept Nothing result by is same count lacks = absurd by

-- a flush after a write, from the finish to the end
module _ {D V N : Type 0} (disk : DiskOf D) (view : ViewOf V N) (y : View) (n p : Here D V) (answer : Written) (result : Flush N) (both : HasBoth disk y n answer) (same : p.0 ≡ n.0)
    (works : Works n p (λ old new. FinishTells view old new answer result × AreThroughs new.marks)) where
  abbrev finished_now : (new : FrontAccount V) × (p.1 ≡ (0, TheFront new) ∷ rest n.1) × (FinishTells view both.front new answer result × AreThroughs new.marks)
  finished_now = works both.front (carries n.1 (0, slot_front both.front) ((1, slot_back both.back) ∷ []) both.out)

  pub may_come : (back : Gated D) × (front : FrontAccount V) × (told : Answer) × (p.1 ≡ (0, TheFront front) ∷ (1, TheBack back) ∷ []) × (p.0.device ≡ written told)
      × KeepsAll disk p.0.basis back p.0.seen p.0.kept × IsWrittenBy disk p.0.basis back p.0.seen p.0.kept told × (back_terms disk back ≡ back_part p.0.basis.terms)
  may_come = bring_ready disk y n answer both p same finished_now.0 finished_now.1

  module _ (q : Here D V) (brings : (back : Gated D) (front : FrontAccount V) → p.1 ≡ (0, TheFront front) ∷ (1, TheBack back) ∷ []
      → q ≡ seat_of (at_device p.0 (settled_by p.0.device)) ((0, slot_front front) ∷ [])) where
    brought : q ≡ seat_of (at_device p.0 (settled_by p.0.device)) ((0, slot_front finished_now.0) ∷ [])
    brought = brings both.back finished_now.0 (finished_now.1 ∙ ap (λ b. (0, slot_front finished_now.0) ∷ b) (ap rest both.out))

    took_settled : Took y q.0 (settled (answer_in answer)) both.front
    took_settled = settled_took disk y n answer both p q same (ap (λ (x : Here D V). x.0) brought)

    pub may_end : (front : FrontAccount V) × (q.1 ≡ (0, TheFront front) ∷ []) × Holds true q.0 front × (given_device q.0.device front.spare ≡ resting)
    may_end = (
      finished_now.0,
      ap (λ (x : Here D V). x.1) brought,
      holds_now y q.0 (settled (answer_in answer)) both.front finished_now.0 took_settled true [] 0 (finished_so view both.front finished_now.0 answer result finished_now.2.0).steps
          (adds_none y.basis.owners y.mine 0) (finishes view both.front finished_now.0 disk y.basis both.back y.seen y.kept answer result both.by finished_now.2.0)
          (makes_asked view both.front finished_now.0 y.due y.basis.terms answer result finished_now.2.0),
      ap (λ (v : View). given_device v.device finished_now.0.spare) took_settled.rest,
    )

    pub word_now : (word : ℕ) → word ≡ n.0.met → (word ≡ q.0.met) × (word < last_word)
    word_now word is = (is ∙ ap (λ (v : View). v.met) (sym same) ∙ sym (ap (λ (x : Here D V). x.0.met) brought), omega (arith, is, both.took.low))

    pub flushed_end : (word : ℕ) (x : Here D V)
        → ((front : FrontAccount V) → q.1 ≡ (0, TheFront front) ∷ [] → x ≡ seat_of (at_device (given true q.0 word front) free) [])
        → (number : ℕ) → IsSingle y number → HasFlushed disk view y x.0 result
    flushed_end word x ends number single =
        subst (λ v. HasFlushed disk view y v result)
        (sym (ended_so y q.0 (settled (answer_in answer)) both.front finished_now.0 took_settled true word q x refl (ends finished_now.0 (ap (λ (z : Here D V). z.1) brought))))
        (flushed_written disk view y q.0 (settled (answer_in answer)) both.front finished_now.0 took_settled word both.back answer result number single both.by both.own finished_now.2.0)

    pub wrote_end : (word : ℕ) (x : Here D V)
        → ((front : FrontAccount V) → q.1 ≡ (0, TheFront front) ∷ [] → x ≡ seat_of (at_device (given true q.0 word front) free) [])
        → (count : ℕ) → Lacks y.seen y.kept count → FlushesFor count x.0 result
    wrote_end word x ends count lacks =
        subst (λ v. FlushesFor count v result)
        (sym (ended_so y q.0 (settled (answer_in answer)) both.front finished_now.0 took_settled true word q x refl (ends finished_now.0 (ap (λ (z : Here D V). z.1) brought))))
        (written_for view y q.0 (settled (answer_in answer)) both.front finished_now.0 word disk y.basis both.back y.seen y.kept answer result both.by finished_now.2.0
        (both.took.meets.awaits (ap lends_block both.was)).2 count lacks)

same_leaves : {V : Type 0} (old new : FrontAccount V) → new ≡ old → FrontSteps old new [] × Stays (held_of old) new
same_leaves old new same = let left = leaves_same old new same in (left_steps old new [] left, left_stays old new [] left)

-- what a turn owes that did nothing with the device, which the seat has
pub stays_resting : {V : Type 0} (old new : FrontAccount V) → Stays (held_of old) new → new.spare ≡ true → Does resting (held_of old) new
stays_resting old new stays spare = inl (stays, spare)

stays_shown : {V N : Type 0} (view : ViewOf V N) (old new : FrontAccount V) (result : Flush N) → old.spare ≡ true → FinishTells view old new Nothing result → Stays (held_of old) new
stays_shown view old new (flush.Done through shown note) spare is = (
  ap (λ (f : FrontAccount _). f.marks) is.1,
  ap (λ (f : FrontAccount _). f.from) is.1,
  ap (λ (f : FrontAccount _). f.stopped) is.1,
  ap (λ (f : FrontAccount _). f.spare) is.1 ∙ sym spare,
)
stays_shown view old new (flush.DiskFault before after) spare is = absurd is
stays_shown view old new (flush.Stopped last) spare is = absurd is

-- what a turn of a flush leaves that needs no write, or that does not write
now_leaves : {V N : Type 0} (view : ViewOf V N) (old new : FrontAccount V) (wanted : ℕ) (result : Result (Flush N) ℕ) → FlushesNow view old new wanted result
    → FrontSteps old new [] × Stays (held_of old) new
now_leaves view old new wanted (Ok answer) now =
    ⊎_elim (λ stop. same_leaves old new stop.1) (λ shown. ((finished_so view old new Nothing answer shown.2).steps, stays_shown view old new answer shown.0 shown.2)) now
now_leaves view old new wanted (Err accepted) now = same_leaves old new now.1

-- the first turn of a flush
module _ {D V N : Type 0} (view : ViewOf V N) (v : View) (m n : Here D V) (taken : HasTaken v m) (result : Result (Flush N) ℕ) (same : n.0 ≡ m.0)
    (works : Works m n (λ old new. FlushesNow view old new (length old.history) result)) where
  abbrev first_now : (new : FrontAccount V) × (n.1 ≡ (0, TheFront new) ∷ rest m.1) × FlushesNow view taken.front new (length taken.front.history) result
  first_now = works taken.front (carries m.1 (0, slot_front taken.front) [] taken.out)

  out_first : n.1 ≡ (0, TheFront first_now.0) ∷ []
  out_first = worked m n taken.front first_now.0 [] taken.out refl first_now.1

  pub give_first : (front : FrontAccount V) × (n.1 ≡ (0, TheFront front) ∷ []) × Holds false n.0 front
  give_first =
      let left = now_leaves view taken.front first_now.0 (length taken.front.history) result first_now.2 in (
        first_now.0,
        out_first,
        subst (λ u. Holds false u first_now.0) (sym same)
            (holds_now v m.0 free taken.front first_now.0 taken.took false [] 0 left.0 (adds_none v.basis.owners v.mine 0) left.1 (inl left.1.0)),
      )

  module _ (word : ℕ) (x : Here D V) (gives : (front : FrontAccount V) → n.1 ≡ (0, TheFront front) ∷ [] → x ≡ seat_of (given false n.0 word front) []) where
    pub seat_first : x.0 ≡ given false (turning v m.0 free taken.front) word first_now.0
    seat_first = gave_now v m.0 n.0 free taken.front first_now.0 false word x taken.took same (gives first_now.0 out_first)

    pub flushed_first : (disk : DiskOf D) (number : ℕ) → IsSingle v number → IfOk result (λ answer. HasFlushed disk view v x.0 answer)
    flushed_first disk number single =
        subst (λ y. IfOk result (λ answer. HasFlushed disk view v y answer)) (sym seat_first)
        (first_flushed disk view v m.0 free taken.front first_now.0 taken.took word number single result first_now.2)

    pub seen_first : (disk : DiskOf D) (number : ℕ) → IsSingle v number → IfErr result (λ accepted. HasSeen v x.0 accepted)
    seen_first disk number single =
        subst (λ y. IfErr result (λ accepted. HasSeen v y accepted)) (sym seat_first)
        (first_seen disk view v m.0 free taken.front first_now.0 taken.took word number single result first_now.2)

    pub first_for : IfOk result (λ answer. FlushesFirst v x.0 answer)
    first_for = subst (λ y. IfOk result (λ answer. FlushesFirst v y answer)) (sym seat_first) (shown_first view v m.0 free taken.front first_now.0 word result first_now.2)

-- the turn with the device of one that asks for so many samples, by the front that it meets
module _ {D V N : Type 0} (view : ViewOf V N) (v : View) (m n : Here D V) (seized : HasSeized v m) (same : n.0 ≡ m.0) (wanted : FrontAccount V → ℕ) (result : Result (Flush N) ℕ)
    (works : Works m n (λ old new. FlushesNow view old new (wanted old) result)) where
  abbrev second_now : (new : FrontAccount V) × (n.1 ≡ (0, TheFront new) ∷ rest m.1) × FlushesNow view seized.front new (wanted seized.front) result
  second_now = works seized.front (carries m.1 (0, slot_front seized.front) [] seized.out)

  out_second : n.1 ≡ (0, TheFront second_now.0) ∷ []
  out_second = worked m n seized.front second_now.0 [] seized.out refl second_now.1

  took_second : Took (at_device v resting) n.0 resting seized.front
  took_second = subst (λ u. Took (at_device v resting) u resting seized.front) (sym same) seized.took

  -- where it needs no write
  module _ (answer : Flush N) (is : result ≡ Ok answer) where
    shows : FlushesNow view seized.front second_now.0 (wanted seized.front) (Ok answer)
    shows = subst (λ what. FlushesNow view seized.front second_now.0 (wanted seized.front) what) is second_now.2

    left_shown : FrontSteps seized.front second_now.0 [] × Stays (held_of seized.front) second_now.0
    left_shown = now_leaves view seized.front second_now.0 (wanted seized.front) (Ok answer) shows

    spare_shown : second_now.0.spare ≡ true
    spare_shown = left_shown.1.3 ∙ seized.took.meets.spare refl refl

    pub end_shown : (front : FrontAccount V) × (n.1 ≡ (0, TheFront front) ∷ []) × Holds false n.0 front × (given_device n.0.device front.spare ≡ resting)
    end_shown = (
      second_now.0,
      out_second,
      holds_now (at_device v resting) n.0 resting seized.front second_now.0 took_second false [] 0 left_shown.0 (adds_none v.basis.owners v.mine 0)
          (stays_resting seized.front second_now.0 left_shown.1 spare_shown) (inl left_shown.1.0),
      ap (λ (x : View). given_device x.device second_now.0.spare) took_second.rest ∙ ap (given_device resting) spare_shown,
    )

    -- after it gave the turn and the device back
    module _ (word : ℕ) (x : Here D V) (ends : (front : FrontAccount V) → n.1 ≡ (0, TheFront front) ∷ [] → x ≡ seat_of (at_device (given false n.0 word front) free) []) where
      ended_second : x.0 ≡ at_device (given false (turning (at_device v resting) n.0 resting seized.front) word second_now.0) free
      ended_second = ended_so (at_device v resting) n.0 resting seized.front second_now.0 took_second false word n x refl (ends second_now.0 out_second)

      pub shown_end : (disk : DiskOf D) (number : ℕ) → IsSingle v number → ((front : FrontAccount V) → IsPrefix v.seen front.history → length v.seen ≤ wanted front)
          → AreOwn v.basis.owners v.seen v.mine → HasFlushed disk view v x.0 answer
      shown_end disk number single enough own =
          flushed_later v (at_device v resting) x.0 (follows_device v resting) disk view answer
          (subst (λ y. HasFlushed disk view (at_device v resting) y answer) (sym ended_second)
          (flushed_now disk view (at_device v resting) n.0 resting seized.front second_now.0 took_second word number single (wanted seized.front) v.seen (prefix_self v.seen) seized.took.meets.seen
          (enough seized.front seized.took.meets.seen) own answer shows))

      pub shown_count : (count : ℕ) → ((front : FrontAccount V) → IsPrefix v.seen front.history → count ≤ wanted front) → FlushesFor count x.0 answer
      shown_count count enough =
          subst (λ y. FlushesFor count y answer) (sym ended_second)
          (shown_for view (at_device v resting) n.0 resting seized.front second_now.0 word count (wanted seized.front) (enough seized.front seized.took.meets.seen) answer shows)

  -- and where it needs one
  module _ (all : ℕ) (is : result ≡ Err all) where
    lacking : FlushesNow view seized.front second_now.0 (wanted seized.front) (Err all)
    lacking = subst (λ what. FlushesNow view seized.front second_now.0 (wanted seized.front) what) is second_now.2

    fewer : durable seized.front.marks < wanted seized.front
    fewer = lacking.3 (seized.took.meets.spare refl refl)

    pub pending_now : ((front : FrontAccount V) → IsPrefix v.seen front.history → wanted front ≤ length front.history) → HasPending v n
    pending_now there = record {
      seized = record {
        front = second_now.0;
        out = out_second;
        took = subst (λ (f : FrontAccount V). Took (at_device v resting) n.0 resting f) (sym lacking.1) took_second;
      };
      going = ap (λ (f : FrontAccount V). f.stopped) lacking.1 ∙ lacking.0;
      pending = subst (λ (f : FrontAccount V). durable f.marks < length f.history) (sym lacking.1) (omega (arith, fewer, there seized.front seized.took.meets.seen));
    }

    -- it is written for so many
    pub pending_count : (x : View) (answer : Flush N) (count : ℕ)
        → ((front : FrontAccount V) → n.1 ≡ (0, TheFront front) ∷ [] → (k : ℕ) → Lacks front.history front.marks k → FlushesFor k x answer)
        → ((front : FrontAccount V) → IsPrefix v.seen front.history → (wanted front ≤ count) × (count ≤ length front.history)) → FlushesFor count x answer
    pending_count x answer count does between =
        let fits = between seized.front seized.took.meets.seen in
        does second_now.0 out_second count (subst (λ (f : FrontAccount V). Lacks f.history f.marks count) (sym lacking.1) (omega (arith, fewer, fits.0), fits.1))

-- a flush that handed the pending records out
module _ {D V : Type 0} (v : View) (m : Here D V) where
  pub hand_of : (what : Handed) → HasTurned v m what → HasHanded m what
  hand_of what turned = record {
    old = turned.old;
    new = turned.new;
    out = turned.out;
    turn_is = ap (λ (x : View). x.turn) turned.took.rest;
    device_is = ap (λ (x : View). x.device) turned.took.rest;
    terms = turned.took.meets.terms ∙ ap (λ (x : View). front_part x.basis.terms) (sym turned.took.rest);
    tells = turned.tells;
  }

  -- and wrote them
  module _ (through : ℕ) (block : Buffered) (turned : HasTurned v m (handed.Given through block)) (word : ℕ) where
    pub both_of : (disk : DiskOf D) (n : Here D V) (word' : ℕ) (answer : Written) → HasWritten disk m word turned.new n word' answer
        → HasBoth disk (at_device (given false m.0 (word + 1) turned.new) writing) n answer
    both_of disk n word' answer wrote = record {
      front = wrote.front;
      back = wrote.back;
      out = wrote.out;
      was = refl;
      took = wrote.took;
      by = wrote.by;
      terms = wrote.terms;
      own = own_recount m.0.basis.owners turned.new.history m.0.mine;
    }

    pub follows_wrote : Follows v (at_device (given false m.0 (word + 1) turned.new) writing)
    follows_wrote =
        follows_handed v m.0 turned.old turned.new (word + 1) turned.took (ap (λ (f : FrontAccount V). f.history) turned.tells.8)
        (ap (λ (f : FrontAccount V). f.marks) turned.tells.8) (ap (λ (f : FrontAccount V). f.stopped) turned.tells.8)

    -- of which fewer than so many are durable
    pub lacks_handed : (count : ℕ) (front : FrontAccount V) → front ≡ turned.old → Lacks front.history front.marks count → Lacks turned.new.history turned.new.marks count
    lacks_handed count front same lacks =
        subst (λ (f : FrontAccount V). Lacks f.history f.marks count) (sym turned.tells.8) (subst (λ (f : FrontAccount V). Lacks f.history f.marks count) same lacks)

pub turned_word : {D V : Type 0} (v : View) (m : Here D V) (what : Handed) (word : ℕ) → HasTurned v m what → word ≡ m.0.met → word < last_word
turned_word v m what word turned is = omega (arith, is, turned.took.low)

pub turned_sources : {D V : Type 0} (v : View) (m : Here D V) (what : Handed) → HasTurned v m what → 0 < length v.mine → 0 < length m.0.mine
turned_sources v m what turned some_mine = subst (λ (y : View). 0 < length y.mine) (sym turned.took.rest) some_mine

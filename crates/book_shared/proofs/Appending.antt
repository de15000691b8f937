-- What a seat knows after an append that wrote.
use Rattle.std.proofs.Common.{◌≡◌, ℕ, ◌+◌, ◌<◌, ◌≤◌, true, false, List, [], ◌∷◌, ◌++◌, length, length-append, drop, refl, sym, ap, ◌∙◌, subst, inl, inr, ◌⊎◌, ⊎_elim, arith, append-nil}
use Rattle.std.specs.Prelude.{slice_index}
use mathlib.Core.List.{IsPrefix}
use Rattle.std.proofs.lemmas.Bool.{false≢true}
use Rattle.atomic_table.specs.Table.{rest}
use Rattle.mdf_disk.specs.declared.disk.Disk.{Ghosts as DiskOf}
use Rattle.mdf_gate.proofs.Carrying.{prefix_trans, prefix_append}
use Rattle.mdf_gate.specs.Gated.{Gated}
use Rattle.mdf_layout.specs.Record.{SampleFits, encoded_size, history_size}
use Rattle.mdf_layout.specs.declared.sample.Sample.{Sample}
use Rattle.book_owned.specs.Account.{Terms}
use Rattle.book_owned.specs.Marks.{durable}
use Rattle.book_owned.specs.BackHalf.{back_terms}
use Rattle.book_owned.specs.FrontHalf.{FrontTerms, FrontAccount, AreThroughs, PutTells, FinishTells}
use Rattle.book_owned.specs.Split.{back_part}
use Rattle.book_owned.specs.declared.mark.Mark.{Mark}
use Rattle.book_owned.specs.declared.view.Shown.{Ghosts as ViewOf}
use Rattle.book_owned.specs.declared.written.Written.{Written}
use Rattle.book_owned.specs.declared.written.Written.TheVariants.{Done, DiskFault, Nothing}
use Rattle.book_owned.specs.declared.answer.Append.{Append}
use Rattle.book_owned.specs.declared.answer.Append.TheVariants as append
use Rattle.book_owned.specs.declared.answer.Flush.{Flush}
use Rattle.book_owned.specs.declared.answer.Flush.TheVariants as flush
use Rattle.book_shared.specs.Basis.{Device, free, resting, written, settled, last_word}
use Rattle.book_shared.specs.Causes.{IsAmong}
use Rattle.book_shared.specs.Rule.{lends_block, KeepsAll, IsWrittenBy}
use Rattle.book_shared.specs.Plays.{Here, at_device, held_of, settled_by, given, given_device, MakesMark, Finishes, Holds}
use Rattle.book_shared.specs.Place.{IsSingle}
use Rattle.book_shared.specs.Turns.{Took, Served, MayTake, Works}
use Rattle.book_shared.specs.Told.{Told, AppendDoes, HasMarked, MarksThrough, MeetsFault, NeedsNoDisk, Puts, Turned, tried_by}
use Rattle.book_shared.specs.Rounds.{HasBoth, IsWrittenAs, WasFull, IsRound, HasTried, round_answer, answered}
use Rattle.book_shared.specs.declared.answer.Try.{Try}
use Rattle.book_shared.specs.declared.answer.Try.TheVariants.{Busy, NeedsFlush, Answered}
use Rattle.book_shared.specs.declared.half.Answer.{Answer}
use Rattle.book_shared.specs.declared.half.Answer.TheVariants.{Marked, Faulted}
use Rattle.book_shared.specs.declared.view.View.{View}
use Rattle.book_shared.specs.declared.half.Half.TheVariants.{TheFront, TheBack}
use Rattle.book_shared.proofs.Causing.{durable_last_of}
use Rattle.book_shared.proofs.Keeps.{seat_of, slot_front, slot_back}
use Rattle.book_shared.proofs.Takings.{carries}
use Rattle.book_shared.proofs.Given.{FrontSteps, LeavesAll, try_leaves, adds_try, turning, holds_now, served_given, told_put}
use Rattle.book_shared.proofs.Finishing.{bring_ready, settled_took, answer_in, HasFinished, finished_so, finishes, served_at}
use Rattle.book_shared.proofs.Flushes.{ended_so, rests_ended}

-- a finish and then a put
module _ {V : Type 0} (old first then : FrontAccount V) (added : List Sample) (done : HasFinished old first) (left : LeavesAll first then added) where
  pub steps_on : FrontSteps old then added
  steps_on = record {
    history = left.history ∙ ap (λ h. h ++ added) done.history;
    marks = subst (λ ms. IsPrefix old.marks ms) (sym left.marks) done.steps.marks;
    stopped = λ stop. left.stopped ∙ done.steps.stopped stop;
    terms = left.terms ∙ done.steps.terms;
  }

  pub finishes_on : (answer : Answer) → Finishes (held_of old) answer first → Finishes (held_of old) answer then
  finishes_on (Marked mark) is = (left.from ∙ is.0, left.spare ∙ is.1, left.marks ∙ is.2, left.stopped ∙ is.3)
  finishes_on (Faulted before after) is = (left.from ∙ is.0, left.spare ∙ is.1, left.marks ∙ is.2, left.stopped ∙ is.3)

-- the mark hands a full block over
makes_full : {V : Type 0} (due : List Sample) (terms : Terms) (old then : FrontAccount V) (sample : Sample) (seen : List Sample) (answer : Answer) → Finishes (held_of old) answer then
    → IsPrefix seen then.history → terms.block_limit < history_size terms.layouts (drop (durable old.marks) seen) + encoded_size terms.layouts sample
    → encoded_size terms.layouts sample ≤ terms.block_limit → ((mark : Mark) → answer ≡ Marked mark → mark.through ≡ length seen) → IsAmong due sample → MakesMark false due terms (held_of old) then
makes_full due terms old then sample seen (Marked mark) is longer full small through wanted = inr (
  mark,
  is.2,
  inr (record {
    before = seen;
    next = sample;
    later = longer.0;
    history_is = sym longer.1;
    through_is = through mark refl;
    is_due = wanted;
    passes = full;
    small = small;
  }),
)
makes_full due terms old then sample seen (Faulted before after) is longer full small through wanted = inl is.2

-- a front that is stopped accepts nothing and stays so
stopped_puts : {V : Type 0} (old new : FrontAccount V) (sample : Sample) (answer : Try) → old.stopped ≡ true → Puts old new sample answer → tried_by answer sample ≡ []
stopped_puts old new sample (Busy word back) stop puts = absurd puts
stopped_puts old new sample (NeedsFlush held size limit back) stop puts = refl
stopped_puts old new sample (Answered (append.Accepted place)) stop puts = absurd (false≢true (sym puts.0.0 ∙ stop))
stopped_puts old new sample (Answered (append.SessionFull held size limit)) stop puts = refl
stopped_puts old new sample (Answered (append.Stopped mark)) stop puts = refl
stopped_puts old new sample (Answered (append.DiskFault before after)) stop puts = refl
stopped_puts old new sample (Answered append.Memory) stop puts = refl

stopped_stays : {V : Type 0} (old new : FrontAccount V) (sample : Sample) (answer : Try) → old.stopped ≡ true → Puts old new sample answer → new ≡ old
stopped_stays old new sample (Busy word back) stop puts = absurd puts
stopped_stays old new sample (NeedsFlush held size limit back) stop puts = puts.2
stopped_stays old new sample (Answered (append.Accepted place)) stop puts = absurd (false≢true (sym puts.0.0 ∙ stop))
stopped_stays old new sample (Answered (append.SessionFull held size limit)) stop puts = puts.0.1
stopped_stays old new sample (Answered (append.Stopped mark)) stop puts = puts.0.1
stopped_stays old new sample (Answered (append.DiskFault before after)) stop puts = absurd puts.0
stopped_stays old new sample (Answered append.Memory) stop puts = puts.0.1

-- what a turn did to the front that put the sample into it
pub append_does : {D V N : Type 0} (disk : DiskOf D) (view : ViewOf V N) (old met new : FrontAccount V) (sample : Sample) (answer : Append) → (met ≡ old) ⊎ HasMarked view old met
    → PutTells met new sample answer → NeedsNoDisk met sample answer → AppendDoes disk view old new sample answer
append_does disk view old met new sample (append.Accepted place) ready puts fits = record { met = met; ready = ready; puts = puts; fits = fits }
append_does disk view old met new sample (append.SessionFull held size limit) ready puts fits = record { met = met; ready = ready; puts = puts; fits = fits }
append_does {D} {V} disk view old met new sample (append.Stopped mark) ready puts fits = ⊎_elim
    (λ same. subst (λ f. PutTells f new sample (append.Stopped mark)) same puts)
    (λ marked. absurd (false≢true (sym (ap (λ (f : FrontAccount V). f.stopped) marked.tells.1 ∙ marked.tells.0) ∙ puts.0))) ready
append_does disk view old met new sample (append.DiskFault before after) ready puts fits = absurd puts
append_does disk view old met new sample append.Memory ready puts fits = record { met = met; ready = ready; puts = puts; fits = fits }

-- why an append was answered so, of a seat that gave the device back too
told_at : (x : View) (d : Device) (history : List Sample) (sample : Sample) (answer : Append) → Told x history sample answer → Told (at_device x d) history sample answer
told_at x d history sample (append.Accepted place) is = is
told_at x d history sample (append.SessionFull held size limit) is = is
told_at x d history sample (append.Stopped mark) is = is
told_at x d history sample (append.DiskFault before after) is = is
told_at x d history sample append.Memory is = is

-- where the block is full again, a mark was made
abbrev pub HasMore : View → View → Try → Type 0
HasMore v x (Busy word back) = Unit {0}
HasMore v x (NeedsFlush held size limit back) = length v.kept < length x.kept
HasMore v x (Answered answer) = Unit {0}

has_more : (v x : View) (answer : Try) → length v.kept < length x.kept → HasMore v x answer
has_more v x (Busy word back) more = tt
has_more v x (NeedsFlush held size limit back) more = more
has_more v x (Answered answer) more = tt

-- a round whose put was answered so
round_holds : {D V N : Type 0} (disk : DiskOf D) (view : ViewOf V N) (v x : View) (old first then : FrontAccount V) (history : List Sample) (sample : Sample) (answer : Try)
    → (first ≡ old) ⊎ HasMarked view old first → Puts first then sample answer → Turned x old then
    → Served v x history (tried_by answer sample) → ((a : Append) → PutTells first then sample a → Told x history sample a) → HasMore v x answer → IsRound disk view v x sample answer
round_holds disk view v x old first then history sample (Busy word back) ready puts turned served told more = absurd puts
round_holds disk view v x old first then history sample (NeedsFlush held size limit back) ready puts turned served told more = ((history, served), puts.7, more)
round_holds disk view v x old first then history sample (Answered a) ready puts turned served told more = (
  (history, served, told a puts.0),
  record { old = old; new = then; turned = turned; does = append_does disk view old first then sample a ready puts.0 puts.1 },
)

-- the seat after a finish, a put, and after it gave the front and the device back
module _ {D V N : Type 0} (disk : DiskOf D) (view : ViewOf V N) (y u : View) (device : Device) (old first then : FrontAccount V) (took : Took y u device old) (word : ℕ) (sample : Sample) (answer : Try)
    (single : IsSingle y (slice_index y.basis.owners sample.group)) (done : HasFinished old first) (puts : Puts first then sample answer) where
  abbrev now_seat : View
  now_seat = at_device (given false (turning y u device old) word then) free

  left_now : LeavesAll first then (tried_by answer sample)
  left_now = try_leaves first then sample answer puts

  served_now : Served y now_seat old.history (tried_by answer sample)
  served_now = served_at y (given false (turning y u device old) word then) free old.history (tried_by answer sample)
      (served_given y u device old then took false word (tried_by answer sample) (slice_index y.basis.owners sample.group) (steps_on old first then (tried_by answer sample) done left_now) single
      (adds_try y.basis.owners y.mine sample answer single))

  told_now : (a : Append) → PutTells first then sample a → Told now_seat old.history sample a
  told_now a tells = told_at (given false (turning y u device old) word then) free old.history sample a
      (subst (λ h. Told (given false (turning y u device old) word then) h sample a) done.history
      (told_put y u device old first then (done.steps.terms ∙ took.meets.terms) false word sample a tells))

  turned_seat : Turned now_seat old then
  turned_seat = record { found = refl; terms = took.meets.terms; history = refl; marks = refl; stopped = refl }

  -- after a write that made a mark, or none
  pub tried_on : (first ≡ old) ⊎ HasMarked view old first → MarksThrough now_seat y.seen → HasMore y now_seat answer → HasTried disk view y now_seat sample answer
  tried_on ready marks more = record {
    round = round_holds disk view y now_seat old first then old.history sample answer ready puts turned_seat served_now told_now more;
    marks = marks;
    rests = rests_ended y u device old then false word;
    asked = append-nil y.asked;
  }

  -- one made a mark
  marked_more : HasMarked view old first → length y.kept < length now_seat.kept
  marked_more marked = omega (
    arith,
    ap length took.meets.kept.1,
    length-append y.kept took.meets.kept.0,
    ap length (left_now.marks ∙ ap (λ (f : FrontAccount V). f.marks) marked.tells.1),
    length-append old.marks (marked.mark ∷ []),
  )

  -- and after one that met a fault
  tried_fault : (before after : ℕ) → MeetsFault disk old first before after → HasTried disk view y now_seat sample (Answered (append.DiskFault before after))
  tried_fault before after fault =
      let stop : first.stopped ≡ true = ap (λ (f : FrontAccount V). f.stopped) fault.stops in record {
        round = (
          (
            old.history,
            subst (λ added. Served y now_seat old.history added) (stopped_puts first then sample answer stop puts) served_now,
            (fault.counts.rose, left_now.stopped ∙ stop),
          ),
          record {
            old = old;
            new = then;
            turned = turned_seat;
            does = record { going = fault.going; stops = stopped_stays first then sample answer stop puts ∙ fault.stops; counts = fault.counts };
          },
        );
        marks = inl (held_of old, refl, left_now.marks ∙ ap (λ (f : FrontAccount V). f.marks) fault.stops);
        rests = rests_ended y u device old then false word;
        asked = append-nil y.asked;
      }

  pub tried_written : (back : Gated D) (wrote : Written) (result : Flush N) → IsWrittenAs disk y.basis back y.seen y.kept wrote
      → FinishTells view old first wrote result → HasTried disk view y now_seat sample (round_answer (answered wrote) answer)
  tried_written back (Done mark block) (flush.Done through shown note) by is =
      let marked : HasMarked view old first = record { mark = mark; through = through; shown = shown; note = note; tells = is } in
      tried_on (inr marked)
      (inr (omega (arith, by.2, durable_last_of old.marks mark, ap durable (left_now.marks ∙ ap (λ (f : FrontAccount V). f.marks) is.1))))
      (has_more y now_seat answer (marked_more marked))
  tried_written back (Done mark block) (flush.DiskFault before after) by is = absurd is
  tried_written back (Done mark block) (flush.Stopped last) by is = absurd is
  tried_written back (DiskFault before after block) (flush.Done through shown note) by is = absurd is
  tried_written back (DiskFault before after block) (flush.DiskFault before' after') by is = tried_fault before after (record { going = is.0; stops = is.1; counts = by.2 })
  tried_written back (DiskFault before after block) (flush.Stopped last) by is = absurd is
  tried_written back Nothing result by is = absurd by

-- through how many samples a mark goes that a write was answered with
through_of : {D : Type 0} (disk : DiskOf D) (v : View) (back : Gated D) (wrote : Written) → IsWrittenAs disk v.basis back v.seen v.kept wrote
    → (mark : Mark) → answer_in wrote ≡ Marked mark → mark.through ≡ length v.seen
through_of disk v back (Done made block) by mark is = ap (λ (m : Mark). m.through) (sym (mark_of is)) ∙ by.2 where
  the_mark : Answer → Mark
  the_mark (Marked m) = m
  the_mark (Faulted before after) = mark

  mark_of : Marked made ≡ Marked mark → made ≡ mark
  mark_of same = ap the_mark same
through_of disk v back (DiskFault before after block) by mark is = absurd (no_mark is) where
  no_mark : Faulted before after ≡ Marked mark → ⊥
  no_mark same = cc
through_of disk v back Nothing by mark is = absurd by

-- the append after a write, from the finish to the end
module _ {D V N : Type 0} (disk : DiskOf D) (view : ViewOf V N) (y : View) (n p r : Here D V) (wrote : Written) (result : Flush N) (sample : Sample) (answer : Try)
    (both : HasBoth disk y n wrote) (same : p.0 ≡ n.0) (works : Works n p (λ old new. FinishTells view old new wrote result × AreThroughs new.marks)) where
  abbrev first_now : (new : FrontAccount V) × (p.1 ≡ (0, TheFront new) ∷ rest n.1) × (FinishTells view both.front new wrote result × AreThroughs new.marks)
  first_now = works both.front (carries n.1 (0, slot_front both.front) ((1, slot_back both.back) ∷ []) both.out)

  done_first : HasFinished both.front first_now.0
  done_first = finished_so view both.front first_now.0 wrote result first_now.2.0

  pub may_try : SampleFits y.basis.terms.layouts sample → encoded_size y.basis.terms.layouts sample ≤ y.basis.terms.block_limit
      → (front : FrontAccount V) × (p.1 ≡ (0, TheFront front) ∷ rest p.1) × MayTake front sample
  may_try fits size = (
    first_now.0,
    carries p.1 (0, slot_front first_now.0) (rest n.1) first_now.1,
    subst (λ (t : FrontTerms). SampleFits t.layouts sample × (encoded_size t.layouts sample ≤ t.block_limit)) (sym (done_first.steps.terms ∙ both.took.meets.terms)) (fits, size),
  )

  module _ (again : r.0 ≡ p.0) (tries : Works p r (λ old new. Puts old new sample answer)) where
    abbrev then_now : (new : FrontAccount V) × (r.1 ≡ (0, TheFront new) ∷ rest p.1) × Puts first_now.0 new sample answer
    then_now = tries first_now.0 (carries p.1 (0, slot_front first_now.0) (rest n.1) first_now.1)

    out_then : r.1 ≡ (0, TheFront then_now.0) ∷ rest n.1
    out_then = then_now.1 ∙ ap (λ b. (0, slot_front then_now.0) ∷ b) (ap rest first_now.1)

    pub may_come_in : (back : Gated D) × (front : FrontAccount V) × (told : Answer) × (r.1 ≡ (0, TheFront front) ∷ (1, TheBack back) ∷ []) × (r.0.device ≡ written told)
        × KeepsAll disk r.0.basis back r.0.seen r.0.kept × IsWrittenBy disk r.0.basis back r.0.seen r.0.kept told × (back_terms disk back ≡ back_part r.0.basis.terms)
    may_come_in = bring_ready disk y n wrote both r (again ∙ same) then_now.0 out_then

    module _ (q : Here D V) (brings : (back : Gated D) (front : FrontAccount V) → r.1 ≡ (0, TheFront front) ∷ (1, TheBack back) ∷ []
        → q ≡ seat_of (at_device r.0 (settled_by r.0.device)) ((0, slot_front front) ∷ [])) where
      came_in : q ≡ seat_of (at_device r.0 (settled_by r.0.device)) ((0, slot_front then_now.0) ∷ [])
      came_in = brings both.back then_now.0 (out_then ∙ ap (λ b. (0, slot_front then_now.0) ∷ b) (ap rest both.out))

      took_then : Took y q.0 (settled (answer_in wrote)) both.front
      took_then = settled_took disk y n wrote both r q (again ∙ same) (ap (λ (x : Here D V). x.0) came_in)

      left_then : LeavesAll first_now.0 then_now.0 (tried_by answer sample)
      left_then = try_leaves first_now.0 then_now.0 sample answer then_now.2

      longer_then : IsPrefix y.seen then_now.0.history
      longer_then = prefix_trans y.seen both.front.history then_now.0.history both.took.meets.seen
          (subst (λ h. IsPrefix both.front.history h) (sym (steps_on both.front first_now.0 then_now.0 (tried_by answer sample) done_first left_then).history) (prefix_append both.front.history (tried_by answer sample)))

      pub may_end_append : IsSingle y (slice_index y.basis.owners sample.group) → WasFull y sample → encoded_size y.basis.terms.layouts sample ≤ y.basis.terms.block_limit
          → (front : FrontAccount V) × (q.1 ≡ (0, TheFront front) ∷ []) × Holds false q.0 front × (given_device q.0.device front.spare ≡ resting)
      may_end_append single full size =
          let owed = finishes_on both.front first_now.0 then_now.0 (tried_by answer sample) done_first left_then (answer_in wrote)
          (finishes view both.front first_now.0 disk y.basis both.back y.seen y.kept wrote result both.by first_now.2.0) in (
            then_now.0,
            ap (λ (x : Here D V). x.1) came_in,
            holds_now y q.0 (settled (answer_in wrote)) both.front then_now.0 took_then false (tried_by answer sample) (slice_index y.basis.owners sample.group)
                (steps_on both.front first_now.0 then_now.0 (tried_by answer sample) done_first left_then) (adds_try y.basis.owners y.mine sample answer single) owed
                (makes_full y.due y.basis.terms both.front then_now.0 sample y.seen (answer_in wrote) owed longer_then
                (subst (λ ms. y.basis.terms.block_limit < history_size y.basis.terms.layouts (drop (durable ms) y.seen) + encoded_size y.basis.terms.layouts sample)
                (sym (both.took.meets.awaits (ap lends_block both.was)).2) full.0) size (through_of disk y both.back wrote both.by) full.1),
            ap (λ (v : View). given_device v.device then_now.0.spare) took_then.rest,
          )

      pub word_then : (word : ℕ) → word ≡ n.0.met → (word ≡ q.0.met) × (word < last_word)
      word_then word is = (is ∙ ap (λ (v : View). v.met) (sym (again ∙ same)) ∙ sym (ap (λ (x : Here D V). x.0.met) came_in), omega (arith, is, both.took.low))

      pub tried_end : (word : ℕ) (x : Here D V)
          → ((front : FrontAccount V) → q.1 ≡ (0, TheFront front) ∷ [] → x ≡ seat_of (at_device (given false q.0 word front) free) [])
          → IsSingle y (slice_index y.basis.owners sample.group) → HasTried disk view y x.0 sample (round_answer (answered wrote) answer)
      tried_end word x ends single =
          subst (λ v. HasTried disk view y v sample (round_answer (answered wrote) answer))
          (sym (ended_so y q.0 (settled (answer_in wrote)) both.front then_now.0 took_then false word q x refl (ends then_now.0 (ap (λ (z : Here D V). z.1) came_in))))
          (tried_written disk view y q.0 (settled (answer_in wrote)) both.front first_now.0 then_now.0 took_then word sample answer single done_first then_now.2 both.back wrote result both.by first_now.2.0)

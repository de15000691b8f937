-- A round of an append: the sample is put, or a full block is handed over.
use Rattle.std.proofs.Common.{◌≡◌, ℕ, ◌+◌, ◌<◌, ◌≤◌, ◌⊎◌, true, false, [], ◌∷◌, ◌++◌, drop, refl, sym, ap, ◌∙◌, subst, inl, inr, ⊎_elim, arith}
use Rattle.std.proofs.Math.Seq.{drop-length}
use Rattle.std.specs.Prelude.{slice_index, Some}
use mathlib.Core.List.{IsPrefix}
use Rattle.atomic_table.specs.Table.{rest}
use Rattle.mdf_disk.specs.declared.disk.Disk.{Ghosts as DiskOf}
use Rattle.mdf_gate.proofs.Carrying.{prefix_self, prefix_trans}
use Rattle.mdf_gate.specs.Gated.{Buffered}
use Rattle.mdf_layout.specs.Record.{SampleFits, encoded_size, history_size}
use Rattle.mdf_layout.specs.declared.sample.Sample.{Sample}
use Rattle.book_owned.specs.Answers.{accepted_by}
use Rattle.book_owned.specs.Marks.{durable}
use Rattle.book_owned.specs.FrontHalf.{FrontTerms, FrontAccount, FrontPasses, HandTells}
use Rattle.book_owned.specs.declared.answer.Append.{Append}
use Rattle.book_owned.specs.declared.handed.Handed.TheVariants as handed
use Rattle.book_owned.specs.declared.view.Shown.{Ghosts as ViewOf}
use Rattle.book_owned.specs.declared.written.Written.{Written}
use Rattle.book_shared.specs.Basis.{Basis, free, resting, writing}
use Rattle.book_shared.specs.Plays.{Here, at_device, given, given_device, held_of, Holds}
use Rattle.book_shared.specs.Place.{IsSingle, MayAppend}
use Rattle.book_shared.specs.Turns.{OnlyDue, Took, Works}
use Rattle.book_shared.specs.Told.{Announces, MarksThrough, Puts, WasBlocked, IsOneTurn}
use Rattle.book_shared.specs.Causes.{IsAmong}
use Rattle.book_shared.specs.Rounds.{wanted, met_in, from_in, HasSeized, HasTurned, HasFull, HasWritten, HasBoth, HasTried, IsOneRound, IsTried, WasFull}
use Rattle.book_shared.specs.declared.answer.Try.{Try}
use Rattle.book_shared.specs.declared.answer.Try.TheVariants.{Busy, NeedsFlush, Answered}
use Rattle.book_shared.specs.declared.half.Half.TheVariants.{TheFront}
use Rattle.book_shared.specs.declared.view.View.{View}
use Rattle.book_shared.proofs.Anys.{any_last, any_parts}
use Rattle.book_shared.proofs.Keeps.{seat_of, slot_front}
use Rattle.book_shared.proofs.Takings.{carries, turned_now}
use Rattle.book_shared.proofs.Given.{LeavesAll, leaves_same, left_steps, left_stays, put_leaves, adds_by, holds_now}
use Rattle.book_shared.proofs.Finishing.{HasFinished}
use Rattle.book_shared.proofs.Following.{Follows, first_later, follows_self, follows_device, follows_served, marks_fewer, served_seen, round_found, round_seen, tried_later}
use Rattle.book_shared.proofs.Flushes.{ended_so, stays_resting, both_of, follows_wrote}
use Rattle.book_shared.proofs.Appending.{append_does, tried_on}

-- a seat that goes on may append the same sample
pub may_later : (v y : View) (sample back : Sample) → Follows v y → back ≡ sample → MayAppend v sample → MayAppend y back
may_later v y sample back on same may =
    subst (λ s. MayAppend y s) (sym same) record {
      owns = subst (λ (b : Basis). IsSingle y (slice_index b.owners sample.group)) (sym on.basis_is) (on.single (slice_index v.basis.owners sample.group) may.owns);
      fits = subst (λ (b : Basis). SampleFits b.terms.layouts sample) (sym on.basis_is) may.fits;
      size = subst (λ (b : Basis). encoded_size b.terms.layouts sample ≤ b.terms.block_limit) (sym on.basis_is) may.size;
    }

-- with a full block there is something to hand out
pub hands_some : {D V : Type 0} (v : View) (m n : Here D V) (sample : Sample) → HasFull v m sample → MayAppend v sample → n.0 ≡ m.0
    → Works m n (λ old new. HandTells old new handed.Nothing) → ⊥
hands_some v m n sample full may same works =
    let front = full.seized.front in
    let all = (turned_now v m n handed.Nothing full.seized same works).tells.2 in
    let passes =
    subst (λ (t : FrontTerms). t.block_limit < history_size t.layouts (drop front.from front.history) + encoded_size t.layouts sample)
    full.seized.took.meets.terms full.passes in
    let none = ap (λ k. history_size v.basis.terms.layouts (drop k front.history)) all
    ∙ ap (history_size v.basis.terms.layouts) (drop-length front.history) in
    omega (arith, passes, none, may.size)

-- a full block was handed out
module _ {D V : Type 0} (v : View) (m n : Here D V) (sample : Sample) (full : HasFull v m sample) where
  module _ (through : ℕ) (block : Buffered) (same : n.0 ≡ m.0) (works : Works m n (λ old new. HandTells old new (handed.Given through block))) where
    abbrev pub turned_full : HasTurned v n (handed.Given through block)
    turned_full = turned_now v m n (handed.Given through block) full.seized same works

    abbrev pub writes_full : ℕ → View
    writes_full word = at_device (given false n.0 (word + 1) turned_full.new) writing

    basis_full : n.0.basis ≡ v.basis
    basis_full = ap (λ (x : View). x.basis) turned_full.took.rest

    was_full : (word : ℕ) → WasFull (writes_full word) sample
    was_full word =
        let front = full.seized.front in
        let new = turned_full.new in
        let pending : drop (durable new.marks) new.history ≡ drop front.from front.history =
        ap (λ (f : FrontAccount V). drop (durable f.marks) f.history) turned_full.tells.8 ∙ ap (λ k. drop k front.history) (sym turned_full.tells.2) in (
          subst (λ (b : Basis). b.terms.block_limit < history_size b.terms.layouts (drop (durable new.marks) new.history) + encoded_size b.terms.layouts sample) (sym basis_full)
              (subst (λ ss. v.basis.terms.block_limit < history_size v.basis.terms.layouts ss + encoded_size v.basis.terms.layouts sample) (sym pending)
              (subst (λ (t : FrontTerms). t.block_limit < history_size t.layouts (drop front.from front.history) + encoded_size t.layouts sample) full.seized.took.meets.terms full.passes)),
          subst (λ ss. IsAmong ss sample) (sym (ap (λ (x : View). x.due) turned_full.took.rest)) full.is_due,
        )

    pub both_full : (disk : DiskOf D) (word : ℕ) (p : Here D V) (word' : ℕ) (answer : Written) → HasWritten disk n word turned_full.new p word' answer → MayAppend v sample
        → (y : View) × HasBoth disk y p answer × MayAppend y sample × WasFull y sample
    both_full disk word p word' answer wrote may =
        let later = may_later v (writes_full word) sample sample (follows_wrote v n through block turned_full word) refl may in
        (writes_full word, both_of v n through block turned_full word disk p word' answer wrote, later, was_full word)

    pub tried_full : {N : Type 0} (disk : DiskOf D) (view : ViewOf V N) (word : ℕ) (p : Here D V) (word' : ℕ) (answer : Written) (x : View) (result : Try)
        → HasWritten disk n word turned_full.new p word' answer → IsSingle v (slice_index v.basis.owners sample.group)
        → ((y : View) → HasBoth disk y p answer → IsSingle y (slice_index y.basis.owners sample.group) → HasTried disk view y x sample result)
        → HasTried disk view v x sample result
    tried_full disk view word p word' answer x result wrote single tried =
        let on = follows_wrote v n through block turned_full word in
        tried_later v (writes_full word) x on disk view sample result
        (tried (writes_full word) (both_of v n through block turned_full word disk p word' answer wrote)
        (subst (λ (b : Basis). IsSingle (writes_full word) (slice_index b.owners sample.group)) (sym on.basis_is) (on.single (slice_index v.basis.owners sample.group) single)))

-- a seat that announces a sample has to append it
pub wants_it : (v : View) (sample : Sample) → IsAmong (wanted v (Some sample)).due sample
wants_it v sample = any_last (λ x. x ≡ sample) v.due (sample ∷ []) (inl refl)

pub may_want : (v : View) (sample : Sample) → MayAppend v sample → MayAppend (wanted v (Some sample)) sample
may_want v sample may = record { owns = may.owns; fits = may.fits; size = may.size }

-- one sample more is due, or none
pub only_same : (v u : View) (sample : Sample) → u.due ≡ v.due → OnlyDue v u sample
only_same v u sample same other is = inl (subst (λ ss. IsAmong ss other) same is)

pub only_new : (v u : View) (sample : Sample) → u.due ≡ v.due ++ sample ∷ [] → OnlyDue v u sample
only_new v u sample more other is =
    ⊎_elim (λ before. inl before) (λ one. ⊎_elim (λ it. inr it) (λ none. absurd none) one) (any_parts (λ x. x ≡ other) v.due (sample ∷ []) (subst (λ ss. IsAmong ss other) more is))

pub only_on : (v y x : View) (sample : Sample) → OnlyDue v y sample → OnlyDue y x sample → OnlyDue v x sample
only_on v y x sample first second other is = ⊎_elim (λ before. first other before) (λ it. inr it) (second other is)

-- a try in the turn with the device
module _ {D V : Type 0} (v : View) (m n : Here D V) (sample : Sample) (seized : HasSeized v m) (same : n.0 ≡ m.0) where
  -- met a full block
  module _ (held size limit : ℕ) (back : Sample) (works : Works m n (λ old new. Puts old new sample (NeedsFlush held size limit back)))
      (wants : IsAmong v.due sample) where
    abbrev met_full : (new : FrontAccount V) × (n.1 ≡ (0, TheFront new) ∷ rest m.1) × Puts seized.front new sample (NeedsFlush held size limit back)
    met_full = works seized.front (carries m.1 (0, slot_front seized.front) [] seized.out)

    pub back_full : back ≡ sample
    back_full = met_full.2.7

    pub full_now : HasFull v n back
    full_now = subst (λ s. HasFull v n s) (sym back_full) (record {
      seized = record {
        front = met_full.0;
        out = met_full.1 ∙ ap (λ b. (0, slot_front met_full.0) ∷ b) (ap rest seized.out);
        took = subst (λ (f : FrontAccount V). Took (at_device v resting) n.0 resting f) (sym met_full.2.2) (subst (λ u. Took (at_device v resting) u resting seized.front) (sym same) seized.took);
      };
      going = ap (λ (f : FrontAccount V). f.stopped) met_full.2.2 ∙ met_full.2.0;
      passes = subst (λ (f : FrontAccount V). FrontPasses f sample) (sym met_full.2.2) met_full.2.6;
      is_due = wants;
    })

    abbrev pub full_may : MayAppend v sample
        → (w : View) × HasFull w n back × MayAppend w back
    full_may may = (v, full_now, may_later v v sample back (follows_self v) back_full may)

  -- or was answered
  module _ (answer : Append) (works : Works m n (λ old new. Puts old new sample (Answered answer))) where
    abbrev put_now : (new : FrontAccount V) × (n.1 ≡ (0, TheFront new) ∷ rest m.1) × Puts seized.front new sample (Answered answer)
    put_now = works seized.front (carries m.1 (0, slot_front seized.front) [] seized.out)

    out_put : n.1 ≡ (0, TheFront put_now.0) ∷ []
    out_put = put_now.1 ∙ ap (λ b. (0, slot_front put_now.0) ∷ b) (ap rest seized.out)

    left_put : LeavesAll seized.front put_now.0 (accepted_by answer sample)
    left_put = put_leaves seized.front put_now.0 sample answer put_now.2.0

    took_put : Took (at_device v resting) n.0 resting seized.front
    took_put = subst (λ u. Took (at_device v resting) u resting seized.front) (sym same) seized.took

    spare_put : put_now.0.spare ≡ true
    spare_put = left_put.spare ∙ seized.took.meets.spare refl refl

    pub end_put : IsSingle v (slice_index v.basis.owners sample.group)
        → (front : FrontAccount V) × (n.1 ≡ (0, TheFront front) ∷ []) × Holds false n.0 front × (given_device n.0.device front.spare ≡ resting)
    end_put single = (
      put_now.0,
      out_put,
      holds_now (at_device v resting) n.0 resting seized.front put_now.0 took_put false (accepted_by answer sample) (slice_index v.basis.owners sample.group)
          (left_steps seized.front put_now.0 (accepted_by answer sample) left_put) (adds_by v.basis.owners v.mine sample answer single)
          (stays_resting seized.front put_now.0 (left_stays seized.front put_now.0 (accepted_by answer sample) left_put) spare_put) (inl left_put.marks),
      ap (λ (x : View). given_device x.device put_now.0.spare) took_put.rest ∙ ap (given_device resting) spare_put,
    )

    rests_same : HasFinished seized.front seized.front
    rests_same = record {
      steps = left_steps seized.front seized.front [] (leaves_same seized.front seized.front refl);
      from = refl;
      spare = seized.took.meets.spare refl refl;
      history = refl;
    }

    pub tried_put : {N : Type 0} (disk : DiskOf D) (view : ViewOf V N) (word : ℕ) (x : Here D V)
        → ((front : FrontAccount V) → n.1 ≡ (0, TheFront front) ∷ [] → x ≡ seat_of (at_device (given false n.0 word front) free) [])
        → IsSingle v (slice_index v.basis.owners sample.group) → HasTried disk view v x.0 sample (Answered answer)
    tried_put disk view word x ends single =
        tried_later v (at_device v resting) x.0 (follows_device v resting) disk view sample (Answered answer)
        (subst (λ y. HasTried disk view (at_device v resting) y sample (Answered answer))
        (sym (ended_so (at_device v resting) n.0 resting seized.front put_now.0 took_put false word n x refl (ends put_now.0 out_put)))
        (tried_on disk view (at_device v resting) n.0 resting seized.front seized.front put_now.0 took_put word sample (Answered answer) single rests_same put_now.2 (inl refl)
        (inl (held_of seized.front, refl, left_put.marks)) tt))

-- a try of one turn, of which an append is made
module _ {D V N : Type 0} (disk : DiskOf D) (view : ViewOf V N) (v x : View) (sample : Sample) where
  pub tried_once : (answer : Append) → IsTried V v x sample (Answered answer) → HasTried disk view v x sample (Answered answer)
  tried_once answer is =
      let front = is.front.tried tt in record {
        round = (
          is.tries.0,
          record {
            old = front.0;
            new = front.1;
            turned = front.2;
            does = append_does disk view front.0 front.0 front.1 sample answer (inl refl) front.3.0 front.3.1;
          },
        );
        marks = inl (held_of front.0, front.2.found, sym front.2.marks ∙ (put_leaves front.0 front.1 sample answer front.3.0).marks);
        rests = is.rests;
        asked = is.asked;
      }

  -- an append after rounds in which nothing was accepted
  pub appended_now : (y : View) (left : Sample) (answer : Append) → Follows v y → left ≡ sample → HasTried disk view y x left (Answered answer)
      → HasTried disk view v x sample (Answered answer)
  appended_now y left answer on same is = subst (λ s. HasTried disk view v x s (Answered answer)) same (tried_later v y x on disk view left (Answered answer) is)

-- the seat after a try that met a full block
pub full_once : {V : Type 0} (v x : View) (sample : Sample) (held size limit : ℕ) (back : Sample) → IsTried V v x sample (NeedsFlush held size limit back) → Follows v x
full_once v x sample held size limit back is = follows_served v x is.tries.0.history is.tries.0.served is.rests is.asked

-- its sample did not fit
pub blocked_once : {V : Type 0} (v x : View) (sample : Sample) (held size limit : ℕ) (back : Sample) → IsTried V v x sample (NeedsFlush held size limit back) → WasBlocked v x sample
blocked_once {V} v x sample held size limit back is =
    let full = is.tries.0 in
    let front = is.front.tried tt in
    let same : x.seen ≡ front.0.history = sym front.2.history ∙ ap (λ (f : FrontAccount V). f.history) front.3.2 in
    record {
      met = held_of front.0;
      first = ([], is.found ∙ ap (λ t. v.found ++ met_in t) front.2.found);
      marks = inl (held_of front.0, front.2.found, sym front.2.marks ∙ ap (λ (f : FrontAccount V). f.marks) front.3.2);
      later = subst (λ h. IsPrefix v.seen h) same (served_seen v x full.history [] full.served);
      seen = subst (λ h. IsPrefix h x.seen) same (prefix_self x.seen);
      handed = omega (arith, is.from, ap from_in front.2.found);
      going = front.3.0;
      passes = subst (λ (t : FrontTerms). t.block_limit < history_size t.layouts (drop front.0.from front.0.history) + encoded_size t.layouts sample) front.2.terms front.3.6;
    }

-- and so it is of a seat that goes on
blocked_later : (v x u : View) (sample : Sample) → IsPrefix x.seen u.seen → IsPrefix x.found u.found → MarksThrough u x.seen → u.basis ≡ x.basis → WasBlocked v x sample → WasBlocked v u sample
blocked_later v x u sample more found marks same is = record {
  met = is.met;
  first = first_later v x u is.met is.first found;
  marks = marks_fewer u is.met.history x.seen is.seen marks;
  later = is.later;
  seen = prefix_trans is.met.history x.seen u.seen is.seen more;
  handed = is.handed;
  going = is.going;
  passes = subst (λ (b : Basis). b.terms.block_limit < history_size b.terms.layouts (drop is.met.from is.met.history) + encoded_size b.terms.layouts sample) (sym same) is.passes;
}

one_round : (v x : View) (sample : Sample) (answer : Try) → WasBlocked v x sample → IsOneRound v x sample answer
one_round v x sample (Busy word back) blocked = tt
one_round v x sample (NeedsFlush held size limit back) blocked = blocked
one_round v x sample (Answered answer) blocked = inr blocked

-- a round that took the device
pub round_full : {D V N : Type 0} (disk : DiskOf D) (view : ViewOf V N) (v x u : View) (sample : Sample) (held size limit : ℕ) (back : Sample) (answer : Try)
    → IsTried V v x sample (NeedsFlush held size limit back) → HasTried disk view x u back answer → WasBlocked v u sample
round_full disk view v x u sample held size limit back answer first then =
    blocked_later v x u sample (round_seen disk view x u back answer then.round) (round_found disk view x u back answer then.round) then.marks then.rests.basis_is (blocked_once v x sample held size limit back first)

pub round_blocked : {D V N : Type 0} (disk : DiskOf D) (view : ViewOf V N) (v x u : View) (sample : Sample) (held size limit : ℕ) (back : Sample) (answer : Try)
    → IsTried V v x sample (NeedsFlush held size limit back) → HasTried disk view x u back answer → IsOneRound v u sample answer
round_blocked disk view v x u sample held size limit back answer first then =
    one_round v u sample answer (round_full disk view v x u sample held size limit back answer first then)

-- after rounds, if there were any, in the first of which the sample did not fit
module _ (v y x : View) (sample left : Sample) (same : left ≡ sample) (before : (y ≡ v) ⊎ WasBlocked v y sample) (more : IsPrefix y.seen x.seen) (found : IsPrefix y.found x.found)
    (marks : MarksThrough x y.seen) (basis : x.basis ≡ y.basis) where
  pub blocked_on : WasBlocked y x left → WasBlocked v x sample
  blocked_on now = ⊎_elim (λ is. subst (λ w. WasBlocked w x sample) is (subst (WasBlocked y x) same now)) (λ was. blocked_later v y x sample more found marks basis was) before

  pub one_on : IsOneTurn y x left → IsOneTurn v x sample
  one_on now = ⊎_elim (λ is. subst (λ w. IsOneTurn w x sample) is (subst (IsOneTurn y x) same now)) (λ was. inr (blocked_later v y x sample more found marks basis was)) before

  pub announced_on : Announces y x left → Announces v x sample
  announced_on now = ⊎_elim (λ is. subst (λ w. Announces w x sample) is (subst (Announces y x) same now)) (λ was. inr (blocked_later v y x sample more found marks basis was)) before

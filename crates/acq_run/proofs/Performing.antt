-- What an append and a flush come to for the source that asked for them.
use Rattle.std.proofs.Common.{◌≡◌, ◌+◌, ◌<◌, ◌≤◌, ◌⊎◌, inl, inr, ⊎_elim, ℕ, List, [], ◌∷◌, length, length-append, take, Result, Ok, Err, refl, sym, ◌∙◌, ap, subst, arith, append-nil}
use Rattle.std.specs.Prelude.{IfOk, IfErr}
use mathlib.Core.List.{IsPrefix}
use Rattle.mdf_gate.proofs.Carrying.{prefix_trans}
use Rattle.mdf_disk.specs.declared.disk.Disk.{Ghosts as DiskOf}
use Rattle.mdf_layout.specs.History.{source_samples}
use Rattle.mdf_layout.specs.declared.sample.Sample.{Sample}
use Rattle.book_owned.specs.declared.answer.Append.{Append}
use Rattle.book_owned.specs.declared.answer.Append.TheVariants as append
use Rattle.book_owned.specs.declared.answer.Flush.TheVariants as flush
use Rattle.book_owned.specs.declared.mark.Mark.{Mark}
use Rattle.book_owned.specs.declared.view.Shown.{Ghosts as ViewOf}
use Rattle.book_shared.specs.Basis.{Basis}
use Rattle.book_shared.specs.Place.{IsSingle, own_part}
use Rattle.book_shared.specs.Rule.{AreOwn}
use Rattle.book_shared.specs.Causes.{IsAmong, times_of}
use Rattle.book_shared.specs.Plays.{held_of}
use Rattle.book_shared.specs.Told.{Appends, AppendsFront, Asks, Flushes, FlushesFront}
use Rattle.book_shared.specs.Turns.{OnlyDue, Served}
use Rattle.book_shared.specs.declared.view.View.{View}
use Rattle.book_shared.proofs.Causing.{asked_one}
use Rattle.acq_run.specs.Works.{CountsFaults, Does, Ends, HasSeenOwn, HasTurns, IsFlushed, IsLater, OnlyDueOf, appended}
use Rattle.acq_run.specs.declared.feed.Fed.{Fed}
use Rattle.acq_run.specs.declared.feed.Fed.TheVariants as fed
use Rattle.acq_run.specs.declared.work.Ended.{Ended}
use Rattle.acq_run.specs.declared.work.Ended.TheVariants.{DiskFault, Stopped}

-- what holds in any case holds of an answer that is `Ok`, and of a fault
pub any_ok : {A E : Type 0} (P : Type 0) (answer : Result A E) → P → IfOk answer (λ x. P)
any_ok P (Ok x) holds = holds
any_ok P (Err e) holds = tt

pub any_err : {A E : Type 0} (P : Type 0) (answer : Result A E) → P → IfErr answer (λ e. P)
any_err P (Ok x) holds = tt
any_err P (Err e) holds = holds

-- one turn of a seat
module _ (v u : View) (history added : List Sample) (served : Served v u history added) where
  pub served_later : IsLater v u
  served_later = record {
    seen = prefix_trans v.seen history u.seen served.later (added, sym served.seen);
    kept = served.kept;
    knows = served.knows;
    basis_is = served.basis_is;
  }

  -- who follows it goes on to
  pub follows_on : {L : Type 0} (follows : L → ℕ → List Sample → Type 0)
      (stays : (follower : L) (which : ℕ) (seen more : List Sample) → follows follower which seen → IsPrefix seen more → follows follower which more) (follower : L)
      → follows follower v.basis.terms.which v.seen → follows follower u.basis.terms.which u.seen
  follows_on follows stays follower now =
      subst (λ (b : Basis). follows follower b.terms.which u.seen) (sym served.basis_is) (stays follower v.basis.terms.which v.seen u.seen now served_later.seen)

  -- all that the source has are its own samples in the history
  own_seen : (number : ℕ) → IsSingle u number → HasSeenOwn u number
  own_seen number single = sym (subst (AreOwn u.basis.owners u.seen) single served.own).0

-- what was asked for before
asked_before : (P : ℕ → Type 0) (v u : View) → u.asked ≡ v.asked → (n : ℕ) → 0 < times_of n u.asked → (0 < times_of n v.asked) ⊎ P n
asked_before P v u same n there = inl (subst (λ a. 0 < times_of n a) same there)

-- nothing was accepted in it
pub does_nothing : (v u : View) (history : List Sample) (source : ℕ) → IsSingle u source → Served v u history [] → u.asked ≡ v.asked → Does v u source [] 0
does_nothing v u history source single served same = record {
  later = served_later v u history [] served;
  mine = served.mine;
  own = λ is. own_seen v u history [] served source single;
  marked = tt;
  counted = refl;
  asked = asked_before (IsFlushed u.basis.owners source u.seen (own_part v.mine) []) v u same;
}

-- the turns of a flush
pub flush_turns : (v u : View) → v.turns < u.turns → u.turns ≤ v.turns + 3 → IsPrefix v.kept u.kept → HasTurns v u
flush_turns v u some few kept = record { some = some; few = omega (arith, few, ap length kept.1, length-append v.kept kept.0) }

-- none but its own sample was to be appended, and none in a flush
pub append_due : (v u : View) (task : Fed) (sample : Sample) → task ≡ fed.Sample sample → OnlyDue v u sample → OnlyDueOf v u (task ∷ [])
append_due v u task sample is only =
    subst (λ t. OnlyDueOf v u (t ∷ [])) (sym is) (λ other there. ⊎_elim (λ before. inl before) (λ same. inr (inl same)) (only other there))

pub flush_due : (v u : View) (task : Fed) → u.due ≡ v.due → OnlyDueOf v u (task ∷ [])
flush_due v u task same other there = inl (subst (λ due. IsAmong due other) same there)

-- an append
module _ (v u : View) (source : ℕ) (single : IsSingle u source) (sample : Sample) (same : u.asked ≡ v.asked) where
  done_by : (answer : Append) → Appends v u sample answer → IfOk (appended answer) (λ accepted. Does v u source (fed.Sample sample ∷ []) accepted)
  done_by (append.Accepted place) (history, served, told) =
      record {
        later = served_later v u history (sample ∷ []) served;
        mine = served.mine;
        own = λ is. own_seen v u history (sample ∷ []) served source single;
        marked = tt;
        counted = refl;
        asked = asked_before (IsFlushed u.basis.owners source u.seen (own_part v.mine) (fed.Sample sample ∷ [])) v u same;
      }
  done_by (append.SessionFull held size limit) appends = tt
  done_by (append.Stopped mark) appends = tt
  done_by (append.DiskFault before after) appends = tt
  done_by append.Memory appends = tt

  module _ {D V N : Type 0} (disk : DiskOf D) (view : ViewOf V N) (number : ℕ) (same_number : number ≡ source) where
    ended_by : (answer : Append) → Appends v u sample answer → AppendsFront disk view u sample answer
        → IfErr (appended answer) (λ ended. Does v u source [] 0 × ((rest : List Fed) → Ends u number (fed.Sample sample ∷ rest) ended))
    ended_by (append.Accepted place) appends front = tt
    ended_by (append.SessionFull held size limit) (history, served, told) front = (
      does_nothing v u history source single served same,
      λ rest. (
        record {
          sample = sample;
          next = record { later = rest; rest_is = refl };
          held_is = told.0;
          size_is = told.1;
          limit_is = told.2;
          over = told.3;
        },
        own_seen v u history [] served number (subst (IsSingle u) (sym same_number) single),
      ),
    )
    ended_by (append.Stopped mark) (history, served, told) front = (
      does_nothing v u history source single served same,
      λ rest. (told.0, told.1, (held_of front.old, front.turned.found, front.does.0)),
    )
    ended_by (append.DiskFault before after) (history, served, told) front = (
      does_nothing v u history source single served same,
      λ rest. (told.0, told.1, (held_of front.old, front.turned.found, front.does.going)),
    )
    ended_by append.Memory (history, served, told) front = (
      does_nothing v u history source single served same,
      λ rest. (
        told.0,
        record { sample = sample; next = record { later = rest; rest_is = refl }; room = told.1 },
        own_seen v u history [] served number (subst (IsSingle u) (sym same_number) single),
      ),
    )

    counted_by : (answer : Append) → AppendsFront disk view u sample answer → IfErr (appended answer) (CountsFaults disk view u)
    counted_by (append.Accepted place) front = tt
    counted_by (append.SessionFull held size limit) front = tt
    counted_by (append.Stopped mark) front = tt
    counted_by (append.DiskFault before after) front = (front.old, front.new, front.turned, front.does)
    counted_by append.Memory front = tt

    -- as the task and what came of it are given
    pub append_ended : (task : Fed) (answer : Append) (result : Result ℕ Ended) → task ≡ fed.Sample sample → result ≡ appended answer → Appends v u sample answer
        → AppendsFront disk view u sample answer → IfErr result (λ ended. Does v u source [] 0 × ((rest : List Fed) → Ends u number (task ∷ rest) ended))
    append_ended task answer result is same appends front =
        subst (λ r. IfErr r (λ ended. Does v u source [] 0 × ((rest : List Fed) → Ends u number (task ∷ rest) ended))) (sym same)
        (subst (λ t. IfErr (appended answer) (λ ended. Does v u source [] 0 × ((rest : List Fed) → Ends u number (t ∷ rest) ended))) (sym is) (ended_by answer appends front))

    pub append_counted : (answer : Append) (result : Result ℕ Ended) → result ≡ appended answer → AppendsFront disk view u sample answer → IfErr result (CountsFaults disk view u)
    append_counted answer result same front = subst (λ r. IfErr r (CountsFaults disk view u)) (sym same) (counted_by answer front)

  pub append_done : (task : Fed) (answer : Append) (result : Result ℕ Ended) → task ≡ fed.Sample sample → result ≡ appended answer → Appends v u sample answer
      → IfOk result (λ accepted. Does v u source (task ∷ []) accepted)
  append_done task answer result is same appends =
      subst (λ r. IfOk r (λ accepted. Does v u source (task ∷ []) accepted)) (sym same)
      (subst (λ t. IfOk (appended answer) (λ accepted. Does v u source (t ∷ []) accepted)) (sym is) (done_by answer appends))

-- a flush
module _ {D V N : Type 0} (disk : DiskOf D) (view : ViewOf V N) (v u : View) (source : ℕ) (single : IsSingle u source) where
  pub flush_done : (through shown : ℕ) (note : N) → Flushes {N = N} v u (flush.Done through shown note) → Asks {N = N} v u (flush.Done through shown note) → Does v u source (fed.Flush ∷ []) 0
  flush_done through shown note (history, served, told) asks =
      let own = served.mine ∙ append-nil (own_part v.mine) in
      let own_is : source_samples u.basis.owners (take through u.seen) source ≡ own_part v.mine =
      sym (subst (AreOwn u.basis.owners (take through u.seen)) single told.2).0 ∙ own in
      let now : IsFlushed u.basis.owners source u.seen (own_part v.mine) (fed.Flush ∷ []) through = record {
        first = [];
        later = [];
        feds_are = refl;
        within = told.0;
        own_is = own_is ∙ sym (append-nil (own_part v.mine));
      } in
      record {
        later = served_later v u history [] served;
        mine = served.mine;
        own = λ is. own_seen v u history [] served source single;
        marked = (
          record {
            through = through;
            mark = told.1;
            within = told.0;
            own_is = own_is;
          },
          tt,
        );
        counted = refl;
        asked = λ n there. ⊎_elim
            (λ before. asked_before (IsFlushed u.basis.owners source u.seen (own_part v.mine) (fed.Flush ∷ [])) v u before n there)
            (λ more. ⊎_elim (λ before. inl before) (λ is. inr (subst (IsFlushed u.basis.owners source u.seen (own_part v.mine) (fed.Flush ∷ [])) (sym is) now))
            (asked_one n through v.asked (subst (λ a. 0 < times_of n a) more there))) asks;
      }

  pub flush_stopped : (mark : Mark) → Flushes {N = N} v u (flush.Stopped mark) → Asks {N = N} v u (flush.Stopped mark) → FlushesFront disk view u (flush.Stopped mark)
      → Does v u source [] 0 × ((rest : List Fed) → Ends u source rest (Stopped mark))
  flush_stopped mark (history, served, told) asks front = (
    does_nothing v u history source single served asks,
    λ rest. (told.0, told.1, (held_of front.old, front.turned.found, front.does.0)),
  )

  pub flush_failed : (before after : ℕ) → Flushes {N = N} v u (flush.DiskFault before after) → Asks {N = N} v u (flush.DiskFault before after) → FlushesFront disk view u (flush.DiskFault before after)
      → Does v u source [] 0 × ((rest : List Fed) → Ends u source rest (DiskFault before after))
  flush_failed before after (history, served, told) asks front = (
    does_nothing v u history source single served asks,
    λ rest. (told.0, told.1, (held_of front.old, front.turned.found, front.does.going)),
  )

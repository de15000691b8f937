-- What a book does, as its machine does it.
use Rattle.std.proofs.Common.{◌≡◌, ◌≤◌, ℕ, Bool, true, false, List, [], ◌∷◌, ◌++◌, length, refl, sym, ◌∙◌, ap, arith, inl, inr, ⊎_elim}
use Rattle.std.specs.Prelude.{nat_le, ◌&&◌}
use Rattle.std.proofs.lemmas.Bool.{cond-true}
use Rattle.std.proofs.lemmas.Bool.Decides.{nat_tests}
use Rattle.mdf_layout.specs.declared.sample.Sample.{Sample}
use Rattle.book_core.specs.Machine.{BookState, after, after_all}
use Rattle.book_core.specs.declared.event.Event.TheVariants.{Accept, FlushDone, FlushFailed, Publish}
use Rattle.book_owned.specs.Members.{DiskOf, ViewOf}
use Rattle.book_owned.specs.Marks.{durable}
use Rattle.book_owned.specs.Account.{Account}
use Rattle.book_owned.specs.Answers.{AddsMark, AppendAnswers, FlushAnswers, IsRefusal}
use Rattle.book_owned.specs.Events.{book_state_of, Happens, AppendEvents, FlushEvents}
use Rattle.book_owned.specs.declared.answer.Append.{Append}
use Rattle.book_owned.specs.declared.answer.Append.TheVariants as append
use Rattle.book_owned.specs.declared.answer.Flush.{Flush}
use Rattle.book_owned.specs.declared.answer.Flush.TheVariants as flush
use Rattle.book_owned.proofs.Lasts.{last_mark-append}

-- a state is what its parts are
same_state : (state : BookState) (history : List Sample) (through shown : ℕ) (stopped : Bool)
    → state.history ≡ history → state.durable ≡ through → state.shown ≡ shown → state.stopped ≡ stopped
    → state ≡ record { history = history; durable = through; shown = shown; stopped = stopped }
same_state state history through shown stopped h d s t =
    ap {B = BookState} (λ x. record { history = x; durable = state.durable; shown = state.shown; stopped = state.stopped }) h
    ∙ ap {B = BookState} (λ x. record { history = history; durable = x; shown = state.shown; stopped = state.stopped }) d
    ∙ ap {B = BookState} (λ x. record { history = history; durable = through; shown = x; stopped = state.stopped }) s
    ∙ ap {B = BookState} (λ x. record { history = history; durable = through; shown = shown; stopped = x }) t

-- a book that goes on
abbrev going : List Sample → ℕ → ℕ → BookState
going history through shown = record { history = history; durable = through; shown = shown; stopped = false }

-- it shows more of the durable samples
publishes : (history : List Sample) (through shown count : ℕ) → shown ≤ count → count ≤ through
    → after (going history through shown) (Publish count) ≡ going history through count
publishes history through shown count more few =
    let both : (nat_le shown count && nat_le count through) ≡ true = grind (arith, nat_tests) in
    cond-true (nat_le shown count && nat_le count through) (going history through count) (going history through shown) both

flushes : (history : List Sample) (through shown count : ℕ) → shown ≤ count → count ≤ length history
    → after_all (going history through shown) (FlushDone ∷ Publish count ∷ []) ≡ going history (length history) count
flushes history through shown count more few = publishes history (length history) shown count more few

module _ {D V N : Type 0} (disk : DiskOf D) (view : ViewOf V N) (old new : Account D V) where
  -- a book that is not stopped
  goes : old.stopped ≡ false → book_state_of view.count old ≡ going old.history (durable old.marks) (view.count old.view)
  goes is = same_state (book_state_of view.count old) old.history (durable old.marks) (view.count old.view) false refl refl refl is

  marked : AddsMark disk old new → durable new.marks ≡ length old.history
  marked (mark, marks, through, moment) = ap durable marks ∙ ap (λ m. m.through) (last_mark-append old.marks mark) ∙ through

  module _ (sample : Sample) (history : new.history ≡ old.history ++ sample ∷ []) (within : durable old.marks ≤ length old.history) (showing : view.count old.view ≤ durable old.marks) where
    accepts : old.stopped ≡ false → new.stopped ≡ false → new.marks ≡ old.marks → new.view ≡ old.view → Happens view.count old new (Accept sample ∷ [])
    accepts is still marks same =
        same_state (book_state_of view.count new) (old.history ++ sample ∷ []) (durable old.marks) (view.count old.view) false history (ap durable marks) (ap view.count same) still
        ∙ ap (λ state. after state (Accept sample)) (sym (goes is))

    accepts_flushed : old.stopped ≡ false → new.stopped ≡ false → durable new.marks ≡ length old.history → view.count old.view ≤ view.count new.view → view.count new.view ≤ length old.history
        → Happens view.count old new (FlushDone ∷ Publish (view.count new.view) ∷ Accept sample ∷ [])
    accepts_flushed is still all more few =
        same_state (book_state_of view.count new) (old.history ++ sample ∷ []) (length old.history) (view.count new.view) false history all refl still
        ∙ ap (λ state. after state (Accept sample)) (sym (flushes old.history (durable old.marks) (view.count old.view) (view.count new.view) more few))
        ∙ ap (λ state. after_all state (FlushDone ∷ Publish (view.count new.view) ∷ Accept sample ∷ [])) (sym (goes is))

    pub append_happens : (place : ℕ) → AppendAnswers disk view old new sample (append.Accepted place) → AppendEvents view.count old new sample (append.Accepted place)
    append_happens place (is, still, room, place_is, turns) =
        ⊎_elim
        (λ fits. inl (accepts is still fits.1 fits.3))
        (λ over. inr (
          over.0,
          accepts_flushed is still (marked over.1) over.2.0 over.2.1,
        ))
        turns

  -- the disk failed
  pub fault_happens : new.history ≡ old.history → new.marks ≡ old.marks → new.view ≡ old.view → new.stopped ≡ true → Happens view.count old new (FlushFailed ∷ [])
  fault_happens history marks same stopped =
      same_state (book_state_of view.count new) old.history (durable old.marks) (view.count old.view) true history (ap durable marks) (ap view.count same) stopped

  -- a flush
  pub flush_happens : (answer : Flush N) → new.history ≡ old.history → durable old.marks ≤ length old.history → view.count old.view ≤ durable old.marks
      → FlushAnswers disk view old new answer → FlushEvents view.count old new answer
  flush_happens (flush.Done through shown note) history within showing (is, still, through_is, shown_is, few, marks, shows, tells) =
      let all : durable new.marks ≡ length old.history = ⊎_elim (λ same. ap durable same.0 ∙ same.2) marked marks in
      let more : view.count old.view ≤ shown = omega (arith, shows.0, shown_is) in
      same_state (book_state_of view.count new) old.history (length old.history) shown false history all (sym shown_is) still
      ∙ sym (flushes old.history (durable old.marks) (view.count old.view) shown more (omega (arith, few, through_is)))
      ∙ ap (λ state. after_all state (FlushDone ∷ Publish shown ∷ [])) (sym (goes is))
  flush_happens (flush.DiskFault before after) history within showing (fault, marks, same, pending) = fault_happens history marks same fault.stopped
  flush_happens (flush.Stopped mark) history within showing stopped = ap (book_state_of view.count) stopped.same

-- a refusal changes nothing
pub refused_events : {D V : Type 0} (count : V → ℕ) (book : Account D V) (sample : Sample) (answer : Append) → IsRefusal answer → AppendEvents count book book sample answer
refused_events count book sample (append.Accepted place) none = absurd none
refused_events count book sample (append.SessionFull held size limit) is = refl
refused_events count book sample (append.Stopped mark) is = refl
refused_events count book sample (append.DiskFault before after) none = absurd none
refused_events count book sample append.Memory none = absurd none

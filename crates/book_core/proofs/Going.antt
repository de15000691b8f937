-- What a book keeps, event by event, and over many.
use Rattle.std.proofs.Common.{ℕ, ◌≡◌, ◌∙◌, sym, ap, subst, ◌≤◌, true, List, [], ◌∷◌, ◌++◌, length, refl, arith, append_assoc, append-nil, length-append}
use Rattle.std.specs.Prelude.{Bool, false, ◌&&◌, not, nat_le}
use mathlib.Core.List.{IsPrefix, prefix-append}
use Rattle.std.proofs.lemmas.Bool.{cond_both, cond-true, false≢true, leb-true, and_parts}
use Rattle.std.proofs.lemmas.Bool.Decides.{nat_tests}
use Rattle.std.proofs.lemmas.List.Sums.{fold-append}
use Rattle.mdf_layout.specs.declared.sample.Sample.{Sample}
use Rattle.book_core.specs.Machine.{BookState, IsOrdered, begun, accepted, flushed, flushed_to, published, after, after_all}
use Rattle.book_core.specs.Law.{GoesOn, IsHeld}
use Rattle.book_core.specs.declared.event.Event.{Event}
use Rattle.book_core.specs.declared.event.Event.TheVariants.{Accept, Refuse, FlushTo, FlushDone, FlushFailed, Publish}

-- a book in order that goes on to another in order
pub record Goes (book later : BookState) : Type 0 where
  pub ordered : IsOrdered later
  pub on : GoesOn book later

-- nothing is added
whole : (samples : List Sample) → IsPrefix samples samples
whole samples = ([], append-nil samples)

pub goes_same : (book : BookState) → IsOrdered book → Goes book book
goes_same book ordered = record {
  ordered = ordered;
  on = record { history = whole book.history; durable = omega arith; shown = omega arith; stopped = λ is. is };
}

goes_accepted : (book : BookState) (sample : Sample) → IsOrdered book → Goes book (accepted book sample)
goes_accepted book sample ordered = record {
  ordered = record { shown = ordered.shown; durable = omega (arith, ordered.durable, length-append book.history (sample ∷ [])) };
  on = record { history = prefix-append book.history (sample ∷ []); durable = omega arith; shown = omega arith; stopped = λ is. is };
}

goes_flushed : (book : BookState) (count : ℕ) → IsOrdered book → book.durable ≤ count → count ≤ length book.history → Goes book (flushed book count)
goes_flushed book count ordered more few = record {
  ordered = record { shown = omega (arith, ordered.shown, more); durable = few };
  on = record { history = whole book.history; durable = more; shown = omega arith; stopped = λ is. is };
}

goes_flushed_to : (book : BookState) (count : ℕ) → IsOrdered book → Goes book (flushed_to book count)
goes_flushed_to book count ordered =
    let may = not book.stopped && nat_le book.durable count in
    cond_both (may && nat_le count (length book.history)) (flushed book count) book (Goes book)
    (λ all. let parts = and_parts may (nat_le count (length book.history)) all in
    goes_flushed book count ordered (leb-true book.durable count (and_parts (not book.stopped) (nat_le book.durable count) parts.0).1)
    (leb-true count (length book.history) parts.1))
    (λ _. goes_same book ordered)

goes_published : (book : BookState) (count : ℕ) → IsOrdered book → book.shown ≤ count → count ≤ book.durable → Goes book (published book count)
goes_published book count ordered more few = record {
  ordered = record { shown = few; durable = ordered.durable };
  on = record { history = whole book.history; durable = omega arith; shown = more; stopped = λ is. is };
}

pub goes_one : (book : BookState) (event : Event) → IsOrdered book → Goes book (after book event)
goes_one book (Accept sample) ordered = cond_both book.stopped book (accepted book sample) (Goes book) (λ _. goes_same book ordered) (λ _. goes_accepted book sample ordered)
goes_one book Refuse ordered = goes_same book ordered
goes_one book (FlushTo count) ordered = goes_flushed_to book count ordered
goes_one book FlushDone ordered = cond_both book.stopped book (flushed book (length book.history)) (Goes book) (λ _. goes_same book ordered)
    (λ _. goes_flushed book (length book.history) ordered ordered.durable (omega arith))
goes_one book FlushFailed ordered = record {
  ordered = record { shown = ordered.shown; durable = ordered.durable };
  on = record { history = whole book.history; durable = omega arith; shown = omega arith; stopped = λ _. refl };
}
goes_one book (Publish count) ordered = cond_both (nat_le book.shown count && nat_le count book.durable) (published book count) book (Goes book)
    (λ both. let parts = and_parts (nat_le book.shown count) (nat_le count book.durable) both in
    goes_published book count ordered (leb-true book.shown count parts.0) (leb-true count book.durable parts.1))
    (λ _. goes_same book ordered)

goes_further : (book later last : BookState) → GoesOn book later → Goes later last → Goes book last
goes_further book later last on goes = record {
  ordered = goes.ordered;
  on = record {
    history = (on.history.0 ++ goes.on.history.0, sym (append_assoc book.history on.history.0 goes.on.history.0) ∙ ap (λ xs. xs ++ goes.on.history.0) on.history.1 ∙ goes.on.history.1);
    durable = omega (arith, on.durable, goes.on.durable);
    shown = omega (arith, on.shown, goes.on.shown);
    stopped = λ is. goes.on.stopped (on.stopped is);
  };
}

pub goes_all : (book : BookState) (events : List Event) → IsOrdered book → Goes book (after_all book events)
goes_all book [] ordered = goes_same book ordered
goes_all book (event ∷ events) ordered =
    let first = goes_one book event ordered in
    goes_further book (after book event) (after_all (after book event) events) first.on (goes_all (after book event) events first.ordered)

-- a stopped book stays as it is but for what it shows
held_same : (book : BookState) → book.stopped ≡ true → IsHeld book book
held_same book is = record { history = refl; durable = refl; stopped = is }

held_one : (book : BookState) (event : Event) → book.stopped ≡ true → IsHeld book (after book event)
held_one book (Accept sample) is = cond_both book.stopped book (accepted book sample) (IsHeld book) (λ _. held_same book is) (λ no. absurd (false≢true (sym no ∙ is)))
held_one book Refuse is = held_same book is
held_one book (FlushTo count) is =
    let may = not book.stopped && nat_le book.durable count in
    cond_both (may && nat_le count (length book.history)) (flushed book count) book (IsHeld book)
    (λ all. let going = (and_parts (not book.stopped) (nat_le book.durable count) (and_parts may (nat_le count (length book.history)) all).0).0 in
    absurd (false≢true (ap not (sym is) ∙ going))) (λ _. held_same book is)
held_one book FlushDone is = cond_both book.stopped book (flushed book (length book.history)) (IsHeld book) (λ _. held_same book is) (λ no. absurd (false≢true (sym no ∙ is)))
held_one book FlushFailed is = record { history = refl; durable = refl; stopped = refl }
held_one book (Publish count) is = cond_both (nat_le book.shown count && nat_le count book.durable) (published book count) book (IsHeld book)
    (λ _. record { history = refl; durable = refl; stopped = is }) (λ _. held_same book is)

pub held_all : (book : BookState) (events : List Event) → book.stopped ≡ true → IsHeld book (after_all book events)
held_all book [] is = held_same book is
held_all book (event ∷ events) is =
    let first = held_one book event is in
    let rest = held_all (after book event) events first.stopped in
    record { history = rest.history ∙ first.history; durable = rest.durable ∙ first.durable; stopped = rest.stopped }

-- from the beginning on
pub ordered_begun : IsOrdered begun
ordered_begun = record { shown = omega arith; durable = omega arith }

pub ordered_all : (events : List Event) → IsOrdered (after_all begun events)
ordered_all events = (goes_all begun events ordered_begun).ordered

pub goes_begun : (events more : List Event) → GoesOn (after_all begun events) (after_all begun (events ++ more))
goes_begun events more = subst (GoesOn (after_all begun events)) (sym (fold-append after begun events more))
    (goes_all (after_all begun events) more (ordered_all events)).on

pub held_begun : (events more : List Event) → IsHeld (after_all begun events) (after_all begun (events ++ FlushFailed ∷ more))
held_begun events more = subst (IsHeld (after_all begun events)) (sym (fold-append after begun events (FlushFailed ∷ more)))
    (let rest = held_all (after (after_all begun events) FlushFailed) more refl in
    record { history = rest.history; durable = rest.durable; stopped = rest.stopped })

-- all samples become durable where so many do as there are
whole_flushed : (history : List Sample) (through shown : ℕ) (stopped : Bool) → through ≤ length history
    → after (record { history = history; durable = through; shown = shown; stopped = stopped }) FlushDone
    ≡ after (record { history = history; durable = through; shown = shown; stopped = stopped }) (FlushTo (length history))
whole_flushed history through shown true within = refl
whole_flushed history through shown false within =
    let count = length history in
    let may : (nat_le through count && nat_le count count) ≡ true = grind (arith, nat_tests) in
    let book : BookState = record { history = history; durable = through; shown = shown; stopped = false } in
    sym (cond-true (nat_le through count && nat_le count count) (flushed book count) book may)

pub whole_begun : (events : List Event) → after (after_all begun events) FlushDone ≡ after (after_all begun events) (FlushTo (length (after_all begun events).history))
whole_begun events =
    let book = after_all begun events in
    whole_flushed book.history book.durable book.shown book.stopped (ordered_all events).durable

use Rattle.std.proofs.Common.{◌≡◌, ◌≤◌, ◌+◌}
use Rattle.book_core.specs.Machine.{after_all, accepted_in}
use Rattle.book_core.proofs.state.run_events.Given as goal

abbrev pub invariant-loop-event : goal.invariant-loop-event
invariant-loop-event l =
    (goal.iterator-loop-event).can_next l.event-iterator ×
    (goal.iterator-loop-event).is_finite l.event-iterator ×
    (after_all l.state.book l.event-iterator.rest.items ≡ after_all l.fn.state.book l.fn.events) ×
    (accepted_in l.event-iterator.rest.items ≤ l.state.spare) ×
    (l.fn.state.spare + accepted_in l.event-iterator.rest.items ≤ l.state.spare + accepted_in l.fn.events)

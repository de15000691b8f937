use Rattle.std.proofs.Common.{◌≡◌}
use Rattle.book_shared_tests.proofs.tasks.feed.Given as goal

abbrev pub invariant-loop-task : goal.invariant-loop-task
invariant-loop-task g l =
    (l.seat.table ≡ l.fn.seat.table) × (l.seat.number ≡ l.fn.seat.number) × (l.seat.know.basis ≡ l.fn.seat.know.basis)

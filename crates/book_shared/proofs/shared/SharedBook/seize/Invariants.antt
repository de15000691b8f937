use Rattle.std.proofs.Common.{◌≡◌}
use Rattle.book_shared.specs.Turns.{Waited}
use Rattle.book_shared.proofs.shared.SharedBook.seize.Given as goal

abbrev pub invariant-loop : goal.invariant-loop
invariant-loop g l = (l.seat.table_id ≡ l.fn.seat.table_id) × (l.seat.me.1 ≡ l.fn.seat.me.1) × Waited l.fn.seat.me.0 l.seat.me.0

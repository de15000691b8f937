use Rattle.std.proofs.Common.{◌≡◌, []}
use Rattle.book_shared.proofs.Covering.{Gathered}
use Rattle.book_shared.proofs.closing.gather.Given as goal

abbrev pub invariant-loop-seat : goal.invariant-loop-seat
invariant-loop-seat g l =
    (l.whole.table_id ≡ l.book.table) × (l.whole.me.1 ≡ []) × Gathered l.book.table l.fn.seats.items l.seats.items l.whole.me.0

abbrev pub decreases-loop-seat : goal.decreases-loop-seat
decreases-loop-seat g l = goal.left-loop-seat g l

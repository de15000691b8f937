use Rattle.std.proofs.Common.{◌≡◌, ◌≤◌, ◌-◌, []}
use Rattle.std.specs.Prelude.{vec_capacity}
use Rattle.book_shared.specs.Plays.{fresh}
use Rattle.book_shared.specs.Fixed.{sources_from}
use Rattle.book_shared.specs.Seats.{new_seats}
use Rattle.book_shared.proofs.Keeps.{seat_of}
use Rattle.book_shared.proofs.opening.part.Given as goal

abbrev pub invariant-loop-number : goal.invariant-loop-number
invariant-loop-number g l =
    (l.whole.table_id ≡ l.book.table)
    × (l.whole.me ≡ seat_of (fresh l.book.basis (sources_from l.number (l.sources - l.number))) [])
    × (l.seats.items ≡ new_seats l.book.table l.book.basis 0 l.number)
    × (l.number ≤ l.sources)
    × (vec_capacity l.seats ≡ vec_capacity l.fn.seats)

use Rattle.std.proofs.Common.{◌≡◌, ◌⊎◌, []}
use Rattle.book_shared.specs.Basis.{free}
use Rattle.book_shared.specs.Told.{WasBlocked}
use Rattle.book_shared.specs.Turns.{HasTurnsFor, OnlyDue}
use Rattle.book_shared.proofs.Following.{Follows}
use Rattle.book_shared.proofs.shared.SharedBook.append_at.Given as goal

-- nothing was accepted so far, and the sample is left, which did not fit in the first turn, if there was one
abbrev pub invariant-loop : goal.invariant-loop
invariant-loop g l =
    (l.seat.table_id ≡ l.fn.seat.table_id) × (l.seat.me.1 ≡ []) × (l.seat.me.0.device ≡ free) × (l.left ≡ l.fn.sample) × Follows l.fn.seat.me.0 l.seat.me.0
    × HasTurnsFor 0 l.fn.seat.me.0 l.seat.me.0 × ((l.seat.me.0 ≡ l.fn.seat.me.0) ⊎ WasBlocked l.fn.seat.me.0 l.seat.me.0 l.fn.sample) × OnlyDue l.fn.seat.me.0 l.seat.me.0 l.fn.sample

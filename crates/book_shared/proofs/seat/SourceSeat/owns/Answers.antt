use Rattle.std.proofs.Common.{◌≡◌, arith, subst}
use Rattle.std.specs.Prelude.{◌==◌, slice_index}
use Rattle.book_shared.specs.Place.{Place}
use Rattle.book_shared.proofs.Seats.{owner_past}
use Rattle.book_shared.proofs.seat.SourceSeat.owns.Goals as goal

pub returns-then-group-ge64 : goal.returns-then-group-ge64
returns-then-group-ge64 c =
    let seat = c.self.inside in
    let group = c.args.group in
    subst (λ (place : Place). (seat.number == 0) ≡ (slice_index place.know.basis.owners group == place.number)) c.self.view_is
    (subst (λ owners. (seat.number == 0) ≡ (slice_index owners group == seat.number)) c.self.invariant.4
    (owner_past seat.owners group seat.number (omega (arith, c.self.invariant.5, c.if-group-ge64.true))))

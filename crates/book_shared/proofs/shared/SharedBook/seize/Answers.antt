use Rattle.book_shared.proofs.Takings.{seized_later}
use Rattle.book_shared.proofs.shared.SharedBook.seize.Goals as goal

pub returns-in-Ok-clause-took : goal.returns-in-Ok-clause-took
returns-in-Ok-clause-took g c =
    seized_later c.args.seat.now.me.0 c.loop.seat.me.0 c.try_take.new.seat.me.0 c.loop.seat.me.1 c.args.seat.now.me.1 c.try_take.new.seat.me.1 c.args.told
    c.loop.invariant.2 c.loop.invariant.1 c.in-Ok.ensures.took.1

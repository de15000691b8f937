use Rattle.book_shared.proofs.Takings.{steps_now, took_now}
use Rattle.book_shared.proofs.Seats.{even_of, low_of}
use Rattle.book_shared.proofs.shared.SharedBook.try_take.Goals as goal

pub returns-clause-took : goal.returns-clause-took
returns-clause-took g c =
    let word = c.look-word.result in
    took_now c.args.seat.now.me.0 c.args.seat.now.me.1 c.look-word.new.seat.me c.take-found.new.seat.me word c.take-found.result c.args.told
    c.look-word.ensures.looked c.take-found.ensures.takes c.if-found-word.false (even_of word c.if-word-eq1.false)
    (low_of word c.look-word.ensures.low c.if-word.false)

pub returns-clause-steps : goal.returns-clause-steps
returns-clause-steps g c =
    steps_now c.args.seat.now.me.0 c.args.seat.now.me.1 c.look-word.new.seat.me c.take-found.new.seat.me c.look-word.result c.take-found.result c.args.told
    c.look-word.ensures.looked c.take-found.ensures.takes c.if-found-word.false

use Rattle.std.proofs.Common.{◌≡◌, sym, subst}
use Rattle.std.specs.Prelude.{Some, None}
use Rattle.std.specs.Option.{option_copied}
use Rattle.book_shared.specs.Basis.{resting}
use Rattle.book_shared.specs.Plays.{at_device}
use Rattle.book_shared.specs.Rounds.{wanted}
use Rattle.book_shared.proofs.Devices.{device_taken}
use Rattle.book_shared.proofs.Keeps.{seat_of}
use Rattle.book_shared.proofs.shared.SharedBook.take_device.Goals as goal

pub returns-in-None-clause-took : goal.returns-in-None-clause-took
returns-in-None-clause-took g c won =
    let m = c.args.seat.now.me in
    let n = c.take_free.new.seat.me in
    subst (λ d. n ≡ seat_of (at_device (wanted m.0 (option_copied d)) resting) m.1) (sym c.in-None.is) (device_taken None m n c.take_free.result c.take_free.ensures.takes won)

pub returns-in-Some-clause-took : goal.returns-in-Some-clause-took
returns-in-Some-clause-took g c won =
    let m = c.args.seat.now.me in
    let n = c.take_due.new.seat.me in
    subst (λ d. n ≡ seat_of (at_device (wanted m.0 (option_copied d)) resting) m.1) (sym c.in-Some.is)
    (device_taken (Some c.in-Some.sample.now) m n c.take_due.result c.take_due.ensures.takes won)

use Rattle.std.proofs.Common.{◌+◌, [], ap, ◌∙◌}
use Rattle.book_shared.specs.Basis.{free}
use Rattle.book_shared.specs.Plays.{Here, at_device, given}
use Rattle.book_shared.proofs.Keeps.{seat_of}
use Rattle.book_shared.proofs.shared.SharedBook.end_round.Goals as goal

pub give-requires-clause-returns : goal.give-requires-clause-returns
give-requires-clause-returns g c = let held = c.requires.returns in (held.0, held.1, held.2)

pub give_device-requires-clause-at_rest : goal.give_device-requires-clause-at_rest
give_device-requires-clause-at_rest g c =
    let held = c.requires.returns in
    ap (λ (x : Here g.row.D.Denot g.row.V.Denot). x.0.device)
    {y = seat_of (given c.args.asked c.args.seat.now.me.0 (c.args.word + 1) held.0) []}
    (c.give.ensures.given held.0 held.1) ∙ held.3

pub give_device-requires-clause-no_turn : goal.give_device-requires-clause-no_turn
give_device-requires-clause-no_turn g c =
    let held = c.requires.returns in
    ap (λ (x : Here g.row.D.Denot g.row.V.Denot). x.1)
    {y = seat_of (given c.args.asked c.args.seat.now.me.0 (c.args.word + 1) held.0) []}
    (c.give.ensures.given held.0 held.1)

pub returns-clause-ended : goal.returns-clause-ended
returns-clause-ended g c front out =
    c.give_device.ensures.gives ∙ ap (λ (x : Here g.row.D.Denot g.row.V.Denot). seat_of (at_device x.0 free) x.1)
    (c.give.ensures.given front out)

pub returns-clause-counts : goal.returns-clause-counts
returns-clause-counts g c = record {
  turns_are =
      let held = c.requires.returns in
      ap (λ (x : Here g.row.D.Denot g.row.V.Denot). x.0.turns) c.give_device.ensures.gives ∙ ap
      (λ (x : Here g.row.D.Denot g.row.V.Denot). x.0.turns)
      {y = seat_of (given c.args.asked c.args.seat.now.me.0 (c.args.word + 1) held.0) []}
      (c.give.ensures.given held.0 held.1);
  due_is =
      let held = c.requires.returns in
      ap (λ (x : Here g.row.D.Denot g.row.V.Denot). x.0.due) c.give_device.ensures.gives ∙ ap
      (λ (x : Here g.row.D.Denot g.row.V.Denot). x.0.due)
      {y = seat_of (given c.args.asked c.args.seat.now.me.0 (c.args.word + 1) held.0) []}
      (c.give.ensures.given held.0 held.1);
}

use Rattle.std.proofs.Common.{◌+◌, [], ◌∙◌, ap, refl, sym, subst, false, arith}
use Rattle.book_shared.specs.Basis.{free}
use Rattle.book_shared.specs.Plays.{Here, Holds}
use Rattle.book_shared.specs.declared.view.View.{View}
use Rattle.book_shared.proofs.Given.{worked, may_take, holds_try, tried_now, had_turn}
use Rattle.book_shared.proofs.Takings.{carries}
use Rattle.book_shared.proofs.shared.SharedBook.try_turn.Goals as goal

pub try_out-answer-requires-clause-front : goal.try_out-answer-requires-clause-front
try_out-answer-requires-clause-front g c =
    let taken = c.requires.taken.1 in
    may_take c.requires.taken.0 c.args.seat.now.me.0 free c.args.seat.now.me taken.front [] c.args.sample taken.out
    taken.took c.requires.taken.2.fits c.requires.taken.2.size

pub give-requires-clause-low : goal.give-requires-clause-low
give-requires-clause-low g c = omega (arith, c.requires.turn.word_is, c.requires.taken.1.took.low)

pub give-requires-clause-returns : goal.give-requires-clause-returns
give-requires-clause-returns g c =
    let taken = c.requires.taken.1 in
    let done = c.try_out-answer.ensures.works.does taken.front (carries _ _ _ taken.out) in (
      done.0,
      worked c.args.seat.now.me c.try_out-answer.new.seat.me taken.front done.0 [] taken.out refl done.1,
      subst (λ u. Holds false u done.0) (sym c.try_out-answer.ensures.works.view_is)
          (holds_try c.requires.taken.0 c.args.seat.now.me.0 free taken.front done.0 taken.took false 0 c.args.sample
          c.requires.taken.2.owns c.try_out-answer.result refl done.2),
    )

pub returns-clause-had : goal.returns-clause-had
returns-clause-had g c =
    let taken = c.requires.taken.1 in
    let done = c.try_out-answer.ensures.works.does taken.front (carries _ _ _ taken.out) in
    had_turn taken.front done.0 c.args.sample c.try_out-answer.result done.2

pub returns-clause-steps : goal.returns-clause-steps
returns-clause-steps g c =
    let taken = c.requires.taken.1 in
    let done = c.try_out-answer.ensures.works.does taken.front (carries _ _ _ taken.out) in
    let out = worked c.args.seat.now.me c.try_out-answer.new.seat.me taken.front done.0 [] taken.out refl done.1 in
    ap (λ (x : Here g.row.D.Denot g.row.V.Denot). x.0.steps) (c.give.ensures.given done.0 out) ∙ ap
    (λ (y : View). y.steps) c.try_out-answer.ensures.works.view_is

pub returns-clause-tried : goal.returns-clause-tried
returns-clause-tried g c v taken single =
    let done = c.try_out-answer.ensures.works.does taken.front (carries _ _ _ taken.out) in
    let out = worked c.args.seat.now.me c.try_out-answer.new.seat.me taken.front done.0 [] taken.out refl done.1 in
    tried_now v c.args.seat.now.me.0 c.try_out-answer.new.seat.me.0 free taken.front done.0 (c.args.word + 1)
    c.give.new.seat.me c.args.sample c.try_out-answer.result taken.took
    single refl done.2 c.try_out-answer.ensures.works.view_is (c.give.ensures.given done.0 out)

pub returns-clause-rounds : goal.returns-clause-rounds
returns-clause-rounds g c =
    let taken = c.requires.taken.1 in
    let done = c.try_out-answer.ensures.works.does taken.front (carries _ _ _ taken.out) in
    let out = worked c.args.seat.now.me c.try_out-answer.new.seat.me taken.front done.0 [] taken.out refl done.1 in
    ap (λ (x : Here g.row.D.Denot g.row.V.Denot). x.0.rounds) (c.give.ensures.given done.0 out) ∙ ap
    (λ (y : View). y.rounds) c.try_out-answer.ensures.works.view_is

pub returns-clause-counts : goal.returns-clause-counts
returns-clause-counts g c = record {
  turns_are =
      let taken = c.requires.taken.1 in
      let done = c.try_out-answer.ensures.works.does taken.front (carries _ _ _ taken.out) in
      let out = worked c.args.seat.now.me c.try_out-answer.new.seat.me taken.front done.0 [] taken.out refl done.1 in
      ap (λ (x : Here g.row.D.Denot g.row.V.Denot). x.0.turns) (c.give.ensures.given done.0 out) ∙ ap
      (λ (y : View). y.turns) c.try_out-answer.ensures.works.view_is;
  due_is =
      let taken = c.requires.taken.1 in
      let done = c.try_out-answer.ensures.works.does taken.front (carries _ _ _ taken.out) in
      let out = worked c.args.seat.now.me c.try_out-answer.new.seat.me taken.front done.0 [] taken.out refl done.1 in
      ap (λ (x : Here g.row.D.Denot g.row.V.Denot). x.0.due) (c.give.ensures.given done.0 out) ∙ ap
      (λ (y : View). y.due) c.try_out-answer.ensures.works.view_is;
}

pub returns-clause-seat : goal.returns-clause-seat
returns-clause-seat g c = record {
  table_is = c.give.ensures.table ∙ c.try_out-answer.ensures.works.table_is;
  no_turn =
      let taken = c.requires.taken.1 in
      let done = c.try_out-answer.ensures.works.does taken.front (carries _ _ _ taken.out) in
      let out = worked c.args.seat.now.me c.try_out-answer.new.seat.me taken.front done.0 [] taken.out refl done.1 in
      ap (λ (x : Here g.row.D.Denot g.row.V.Denot). x.1) (c.give.ensures.given done.0 out);
}

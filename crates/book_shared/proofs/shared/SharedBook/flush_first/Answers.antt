use Rattle.std.proofs.Common.{◌+◌, ◌∙◌, ap, inl, arith}
use Rattle.book_shared.specs.Plays.{Here}
use Rattle.book_shared.specs.declared.view.View.{View}
use Rattle.book_shared.proofs.Given.{taken_now}
use Rattle.book_shared.proofs.Lists.{one_source}
use Rattle.book_shared.proofs.Takings.{carries}
use Rattle.book_shared.proofs.Flushes.{give_first, seat_first, first_for, flushed_first, seen_first}
use Rattle.book_shared.proofs.shared.SharedBook.flush_first.Goals as goal

pub flush_out-answer-requires-clause-front : goal.flush_out-answer-requires-clause-front
flush_out-answer-requires-clause-front g c =
    let taken = taken_now c.args.seat.now.me c.seize-word.new.seat.me c.requires.seat.no_turn c.requires.seat.no_device
    c.seize-word.ensures.took in λ κs outlives. (taken.front, carries _ _ _ taken.out)

pub give-requires-clause-low : goal.give-requires-clause-low
give-requires-clause-low g c = omega (arith, c.seize-word.ensures.word, c.seize-word.ensures.took.2.low)

pub give-requires-clause-returns : goal.give-requires-clause-returns
give-requires-clause-returns g c =
    give_first g.V.Shown c.args.seat.now.me.0 c.seize-word.new.seat.me c.flush_out-answer.new.seat.me
    (taken_now c.args.seat.now.me c.seize-word.new.seat.me c.requires.seat.no_turn c.requires.seat.no_device c.seize-word.ensures.took)
    c.flush_out-answer.result c.flush_out-answer.ensures.works.view_is c.flush_out-answer.ensures.works.does

pub returns-clause-rounds : goal.returns-clause-rounds
returns-clause-rounds g c =
    ap (λ (y : View). y.rounds)
    (seat_first g.V.Shown c.args.seat.now.me.0 c.seize-word.new.seat.me c.flush_out-answer.new.seat.me
    (taken_now c.args.seat.now.me c.seize-word.new.seat.me c.requires.seat.no_turn c.requires.seat.no_device c.seize-word.ensures.took)
    c.flush_out-answer.result c.flush_out-answer.ensures.works.view_is c.flush_out-answer.ensures.works.does
    (c.seize-word.result + 1) c.give.new.seat.me c.give.ensures.given)

pub returns-clause-flushed : goal.returns-clause-flushed
returns-clause-flushed g c =
    flushed_first g.V.Shown c.args.seat.now.me.0 c.seize-word.new.seat.me c.flush_out-answer.new.seat.me
    (taken_now c.args.seat.now.me c.seize-word.new.seat.me c.requires.seat.no_turn c.requires.seat.no_device c.seize-word.ensures.took)
    c.flush_out-answer.result c.flush_out-answer.ensures.works.view_is c.flush_out-answer.ensures.works.does
    (c.seize-word.result + 1) c.give.new.seat.me c.give.ensures.given
    g.D.Disk c.requires.single.0 c.requires.single.1

pub returns-clause-seen : goal.returns-clause-seen
returns-clause-seen g c =
    seen_first g.V.Shown c.args.seat.now.me.0 c.seize-word.new.seat.me c.flush_out-answer.new.seat.me
    (taken_now c.args.seat.now.me c.seize-word.new.seat.me c.requires.seat.no_turn c.requires.seat.no_device c.seize-word.ensures.took)
    c.flush_out-answer.result c.flush_out-answer.ensures.works.view_is c.flush_out-answer.ensures.works.does
    (c.seize-word.result + 1) c.give.new.seat.me c.give.ensures.given
    g.D.Disk c.requires.single.0 c.requires.single.1

pub returns-clause-first : goal.returns-clause-first
returns-clause-first g c =
    first_for g.V.Shown c.args.seat.now.me.0 c.seize-word.new.seat.me c.flush_out-answer.new.seat.me
    (taken_now c.args.seat.now.me c.seize-word.new.seat.me c.requires.seat.no_turn c.requires.seat.no_device c.seize-word.ensures.took)
    c.flush_out-answer.result c.flush_out-answer.ensures.works.view_is c.flush_out-answer.ensures.works.does
    (c.seize-word.result + 1) c.give.new.seat.me c.give.ensures.given

pub returns-clause-counts : goal.returns-clause-counts
returns-clause-counts g c = record {
  turns_are =
      ap (λ (y : View). y.turns)
      (seat_first g.V.Shown c.args.seat.now.me.0 c.seize-word.new.seat.me c.flush_out-answer.new.seat.me
      (taken_now c.args.seat.now.me c.seize-word.new.seat.me c.requires.seat.no_turn c.requires.seat.no_device
      c.seize-word.ensures.took) c.flush_out-answer.result c.flush_out-answer.ensures.works.view_is
      c.flush_out-answer.ensures.works.does (c.seize-word.result + 1) c.give.new.seat.me c.give.ensures.given);
  due_is =
      ap (λ (y : View). y.due)
      (seat_first g.V.Shown c.args.seat.now.me.0 c.seize-word.new.seat.me c.flush_out-answer.new.seat.me
      (taken_now c.args.seat.now.me c.seize-word.new.seat.me c.requires.seat.no_turn c.requires.seat.no_device
      c.seize-word.ensures.took) c.flush_out-answer.result c.flush_out-answer.ensures.works.view_is
      c.flush_out-answer.ensures.works.does (c.seize-word.result + 1) c.give.new.seat.me c.give.ensures.given);
}

pub returns-clause-seat : goal.returns-clause-seat
returns-clause-seat g c = record {
  table_is = c.give.ensures.table ∙ c.flush_out-answer.ensures.works.table_is ∙ c.seize-word.ensures.table;
  no_turn =
      let held = give_first g.V.Shown c.args.seat.now.me.0 c.seize-word.new.seat.me c.flush_out-answer.new.seat.me
      (taken_now c.args.seat.now.me c.seize-word.new.seat.me c.requires.seat.no_turn c.requires.seat.no_device
      c.seize-word.ensures.took) c.flush_out-answer.result c.flush_out-answer.ensures.works.view_is
      c.flush_out-answer.ensures.works.does in
      ap (λ (x : Here g.row.D.Denot g.row.V.Denot). x.1) (c.give.ensures.given held.0 held.1);
}

pub seize-word-requires : goal.seize-word-requires
seize-word-requires g c = record {
  may = record {
    table_is = c.requires.seat.table_is;
    some_source = one_source c.requires.single.0 c.args.seat.now.me.0.mine _ c.requires.single.1;
    tells = inl c.requires.seat.no_device;
  };
}

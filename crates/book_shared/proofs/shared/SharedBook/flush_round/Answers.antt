use Rattle.std.proofs.Common.{◌+◌, ◌∙◌, ap, sym, length, length-append, arith}
use Rattle.std.specs.Prelude.{None}
use Rattle.book_shared.specs.Plays.{Here}
use Rattle.book_shared.specs.Rounds.{wanted}
use Rattle.book_shared.specs.declared.view.View.{View}
use Rattle.book_shared.proofs.Lists.{one_source}
use Rattle.book_shared.proofs.Takings.{carries}
use Rattle.book_shared.proofs.Following.{flushed_later, follows_due}
use Rattle.book_shared.proofs.Flushes.{end_shown, shown_count, shown_end, pending_count, pending_now}
use Rattle.book_shared.proofs.shared.SharedBook.flush_round.Goals as goal

pub flush_out-requires-clause-front : goal.flush_out-requires-clause-front
flush_out-requires-clause-front g c =
    let seized = c.device_turn-word.ensures.seized in λ κs outlives. (seized.front, carries _ _ _ seized.out)

pub end_round-requires-clause-turn : goal.end_round-requires-clause-turn
end_round-requires-clause-turn g c = record {
  table_is = c.flush_out.ensures.works.table_is ∙ c.device_turn-word.ensures.table ∙ c.requires.seat.table_is;
  word_is =
      c.device_turn-word.ensures.word ∙ ap (λ (y : View). y.met) (sym c.flush_out.ensures.works.view_is);
}

pub end_round-requires-clause-low : goal.end_round-requires-clause-low
end_round-requires-clause-low g c = omega (arith, c.device_turn-word.ensures.word, c.device_turn-word.ensures.seized.took.low)

pub end_round-requires-clause-returns : goal.end_round-requires-clause-returns
end_round-requires-clause-returns g c =
    end_shown g.V.Shown (wanted c.args.seat.now.me.0 None) c.device_turn-word.new.seat.me c.flush_out.new.seat.me
    c.device_turn-word.ensures.seized c.flush_out.ensures.works.view_is _
    c.flush_out.result c.flush_out.ensures.works.does c.in-Ok.answer c.in-Ok.is

pub returns-in-Ok-clause-flushed : goal.returns-in-Ok-clause-flushed
returns-in-Ok-clause-flushed g c =
    let v = wanted c.args.seat.now.me.0 None in
    flushed_later c.args.seat.now.me.0 v c.end_round.new.seat.me.0 (follows_due c.args.seat.now.me.0 None) g.D.Disk g.V.Shown c.in-Ok.answer
    (shown_end g.V.Shown v c.device_turn-word.new.seat.me c.flush_out.new.seat.me c.device_turn-word.ensures.seized
    c.flush_out.ensures.works.view_is _
    c.flush_out.result c.flush_out.ensures.works.does c.in-Ok.answer c.in-Ok.is (c.device_turn-word.result + 1)
    c.end_round.new.seat.me c.end_round.ensures.ended
    g.D.Disk c.requires.single.0 c.requires.single.1
    (λ front begins. omega (arith, c.requires.accepted, ap length begins.1, length-append v.seen begins.0))
    c.requires.own)

pub returns-in-Ok-clause-wrote : goal.returns-in-Ok-clause-wrote
returns-in-Ok-clause-wrote g c =
    let v = wanted c.args.seat.now.me.0 None in
    shown_count g.V.Shown v c.device_turn-word.new.seat.me c.flush_out.new.seat.me c.device_turn-word.ensures.seized
    c.flush_out.ensures.works.view_is _
    c.flush_out.result c.flush_out.ensures.works.does c.in-Ok.answer c.in-Ok.is (c.device_turn-word.result + 1)
    c.end_round.new.seat.me c.end_round.ensures.ended
    c.args.accepted (λ front begins. omega (arith, c.requires.accepted, ap length begins.1, length-append v.seen begins.0))

pub returns-in-Ok-clause-turns : goal.returns-in-Ok-clause-turns
returns-in-Ok-clause-turns g c =
    omega (
      arith,
      c.end_round.ensures.counts.turns_are,
      ap (λ (y : View). y.turns) c.flush_out.ensures.works.view_is,
      ap
          (λ (y : View). y.turns) c.device_turn-word.ensures.seized.took.rest,
    )

pub returns-in-Ok-clause-due : goal.returns-in-Ok-clause-due
returns-in-Ok-clause-due g c =
    c.end_round.ensures.counts.due_is ∙ ap (λ (y : View). y.due) c.flush_out.ensures.works.view_is ∙ ap
    (λ (y : View). y.due) c.device_turn-word.ensures.seized.took.rest

pub flush_pending-requires-clause-turn : goal.flush_pending-requires-clause-turn
flush_pending-requires-clause-turn g c = λ κs outlives. record {
  table_is = c.flush_out.ensures.works.table_is ∙ c.device_turn-word.ensures.table ∙ c.requires.seat.table_is;
  word_is =
      c.device_turn-word.ensures.word ∙ ap (λ (y : View). y.met) (sym c.flush_out.ensures.works.view_is);
}

pub flush_pending-requires-clause-pending : goal.flush_pending-requires-clause-pending
flush_pending-requires-clause-pending g c =
    let v = wanted c.args.seat.now.me.0 None in
    λ κs outlives. (
      v,
      pending_now g.V.Shown v c.device_turn-word.new.seat.me c.flush_out.new.seat.me c.device_turn-word.ensures.seized
          c.flush_out.ensures.works.view_is _
          c.flush_out.result c.flush_out.ensures.works.does c.in-Err._accepted c.in-Err.is
          (λ front begins. omega (arith, c.requires.accepted, ap length begins.1, length-append v.seen begins.0)),
      one_source c.requires.single.0 v.mine _ c.requires.single.1,
    )

pub returns-in-Err-clause-flushed : goal.returns-in-Err-clause-flushed
returns-in-Err-clause-flushed g c =
    let v = wanted c.args.seat.now.me.0 None in
    flushed_later c.args.seat.now.me.0 v c.flush_pending.new.seat.me.0 (follows_due c.args.seat.now.me.0 None) g.D.Disk
    g.V.Shown c.flush_pending.result
    (c.flush_pending.ensures.flushed v
    (pending_now g.V.Shown v c.device_turn-word.new.seat.me c.flush_out.new.seat.me c.device_turn-word.ensures.seized
    c.flush_out.ensures.works.view_is _
    c.flush_out.result c.flush_out.ensures.works.does c.in-Err._accepted c.in-Err.is
    (λ front begins. omega (arith, c.requires.accepted, ap length begins.1, length-append v.seen begins.0)))
    c.requires.single.0 c.requires.single.1)

pub returns-in-Err-clause-wrote : goal.returns-in-Err-clause-wrote
returns-in-Err-clause-wrote g c =
    let v = wanted c.args.seat.now.me.0 None in
    pending_count g.V.Shown v c.device_turn-word.new.seat.me c.flush_out.new.seat.me c.device_turn-word.ensures.seized
    c.flush_out.ensures.works.view_is _
    c.flush_out.result c.flush_out.ensures.works.does c.in-Err._accepted c.in-Err.is c.flush_pending.new.seat.me.0
    c.flush_pending.result c.args.accepted c.flush_pending.ensures.wrote
    (λ front begins. (omega arith, omega (arith, c.requires.accepted, ap length begins.1, length-append v.seen begins.0)))

pub returns-in-Err-clause-turns : goal.returns-in-Err-clause-turns
returns-in-Err-clause-turns g c =
    omega (
      arith,
      c.flush_pending.ensures.counts.turns_are,
      ap (λ (y : View). y.turns)
          c.flush_out.ensures.works.view_is,
      ap (λ (y : View). y.turns) c.device_turn-word.ensures.seized.took.rest,
    )

pub returns-in-Err-clause-due : goal.returns-in-Err-clause-due
returns-in-Err-clause-due g c =
    c.flush_pending.ensures.counts.due_is ∙ ap (λ (y : View). y.due) c.flush_out.ensures.works.view_is ∙ ap
    (λ (y : View). y.due) c.device_turn-word.ensures.seized.took.rest

pub returns-in-Ok-clause-seat : goal.returns-in-Ok-clause-seat
returns-in-Ok-clause-seat g c = record {
  table_is = c.end_round.ensures.table ∙ c.flush_out.ensures.works.table_is ∙ c.device_turn-word.ensures.table;
  no_turn =
      let held = end_shown g.V.Shown (wanted c.args.seat.now.me.0 None) c.device_turn-word.new.seat.me
      c.flush_out.new.seat.me c.device_turn-word.ensures.seized c.flush_out.ensures.works.view_is _ c.flush_out.result
      c.flush_out.ensures.works.does c.in-Ok.answer c.in-Ok.is in
      ap (λ (x : Here g.row.D.Denot g.row.V.Denot). x.1) (c.end_round.ensures.ended held.0 held.1);
}

pub device_turn-word-requires : goal.device_turn-word-requires
device_turn-word-requires g c = record {
  may = record {
    empty = c.requires.seat;
    some_source = one_source c.requires.single.0 c.args.seat.now.me.0.mine _ c.requires.single.1;
  };
}

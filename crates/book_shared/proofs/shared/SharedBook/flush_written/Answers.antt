use Rattle.std.proofs.Common.{◌+◌, ◌∙◌, ap}
use Rattle.book_shared.specs.Plays.{Here}
use Rattle.book_shared.specs.declared.view.View.{View}
use Rattle.book_shared.proofs.Finishing.{awaited_now}
use Rattle.book_shared.proofs.Flushes.{may_come, may_end, word_now, flushed_end, wrote_end}
use Rattle.book_shared.proofs.shared.SharedBook.flush_written.Goals as goal

pub finish_out-answer-requires-clause-front : goal.finish_out-answer-requires-clause-front
finish_out-answer-requires-clause-front g c =
    λ κs outlives. awaited_now g.D.Disk c.requires.both.0 c.args.seat.now.me c.args.written c.requires.both.1

pub bring_in-requires-clause-back : goal.bring_in-requires-clause-back
bring_in-requires-clause-back g c =
    may_come g.D.Disk g.V.Shown c.requires.both.0 c.args.seat.now.me c.finish_out-answer.new.seat.me c.args.written
    c.finish_out-answer.result c.requires.both.1
    c.finish_out-answer.ensures.works.view_is c.finish_out-answer.ensures.works.does

pub end_round-requires-clause-turn : goal.end_round-requires-clause-turn
end_round-requires-clause-turn g c = record {
  table_is = c.bring_in.ensures.table ∙ c.finish_out-answer.ensures.works.table_is ∙ c.requires.turn.table_is;
  word_is =
      (word_now g.D.Disk g.V.Shown c.requires.both.0 c.args.seat.now.me c.finish_out-answer.new.seat.me c.args.written
      c.finish_out-answer.result c.requires.both.1
      c.finish_out-answer.ensures.works.view_is c.finish_out-answer.ensures.works.does c.bring_in.new.seat.me
      c.bring_in.ensures.back_in c.args.word c.requires.turn.word_is).0;
}

pub end_round-requires-clause-low : goal.end_round-requires-clause-low
end_round-requires-clause-low g c =
    (word_now g.D.Disk g.V.Shown c.requires.both.0 c.args.seat.now.me c.finish_out-answer.new.seat.me c.args.written
    c.finish_out-answer.result c.requires.both.1
    c.finish_out-answer.ensures.works.view_is c.finish_out-answer.ensures.works.does c.bring_in.new.seat.me
    c.bring_in.ensures.back_in c.args.word c.requires.turn.word_is).1

pub end_round-requires-clause-returns : goal.end_round-requires-clause-returns
end_round-requires-clause-returns g c =
    may_end g.D.Disk g.V.Shown c.requires.both.0 c.args.seat.now.me c.finish_out-answer.new.seat.me c.args.written
    c.finish_out-answer.result c.requires.both.1
    c.finish_out-answer.ensures.works.view_is c.finish_out-answer.ensures.works.does c.bring_in.new.seat.me c.bring_in.ensures.back_in

pub returns-clause-flushed : goal.returns-clause-flushed
returns-clause-flushed g c y both number single =
    flushed_end g.D.Disk g.V.Shown y c.args.seat.now.me c.finish_out-answer.new.seat.me c.args.written c.finish_out-answer.result both
    c.finish_out-answer.ensures.works.view_is c.finish_out-answer.ensures.works.does c.bring_in.new.seat.me
    c.bring_in.ensures.back_in (c.args.word + 1) c.end_round.new.seat.me
    c.end_round.ensures.ended number single

pub returns-clause-wrote : goal.returns-clause-wrote
returns-clause-wrote g c y both count lacks =
    wrote_end g.D.Disk g.V.Shown y c.args.seat.now.me c.finish_out-answer.new.seat.me c.args.written c.finish_out-answer.result both
    c.finish_out-answer.ensures.works.view_is c.finish_out-answer.ensures.works.does c.bring_in.new.seat.me
    c.bring_in.ensures.back_in (c.args.word + 1) c.end_round.new.seat.me
    c.end_round.ensures.ended count lacks

pub returns-clause-counts : goal.returns-clause-counts
returns-clause-counts g c = record {
  turns_are =
      c.end_round.ensures.counts.turns_are ∙ c.bring_in.ensures.counts.turns_are ∙ ap (λ (y : View). y.turns)
      c.finish_out-answer.ensures.works.view_is;
  due_is =
      c.end_round.ensures.counts.due_is ∙ c.bring_in.ensures.counts.due_is ∙ ap (λ (y : View). y.due)
      c.finish_out-answer.ensures.works.view_is;
}

pub returns-clause-seat : goal.returns-clause-seat
returns-clause-seat g c = record {
  table_is = c.end_round.ensures.table ∙ c.bring_in.ensures.table ∙ c.finish_out-answer.ensures.works.table_is;
  no_turn =
      let held = may_end g.D.Disk g.V.Shown c.requires.both.0 c.args.seat.now.me c.finish_out-answer.new.seat.me
      c.args.written c.finish_out-answer.result c.requires.both.1 c.finish_out-answer.ensures.works.view_is
      c.finish_out-answer.ensures.works.does c.bring_in.new.seat.me c.bring_in.ensures.back_in in
      ap (λ (x : Here g.row.D.Denot g.row.V.Denot). x.1) (c.end_round.ensures.ended held.0 held.1);
}

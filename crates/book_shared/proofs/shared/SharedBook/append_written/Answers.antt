use Rattle.std.proofs.Common.{◌+◌, ◌∙◌, ap, sym, subst}
use Rattle.book_shared.specs.Plays.{Here}
use Rattle.book_shared.specs.Rounds.{HasTried, round_answer}
use Rattle.book_shared.specs.declared.answer.Try.TheVariants.{Busy}
use Rattle.book_shared.specs.declared.view.View.{View}
use Rattle.book_shared.proofs.Finishing.{awaited_now}
use Rattle.book_shared.proofs.Appending.{may_try, may_come_in, may_end_append, word_then, tried_end}
use Rattle.book_shared.proofs.shared.SharedBook.append_written.Goals as goal

pub finish_out-requires-clause-front : goal.finish_out-requires-clause-front
finish_out-requires-clause-front g c =
    λ κs outlives. awaited_now g.D.Disk c.requires.both.0 c.args.seat.now.me c.args.written c.requires.both.1

pub try_out-answer-requires-clause-front : goal.try_out-answer-requires-clause-front
try_out-answer-requires-clause-front g c =
    may_try g.D.Disk g.V.Shown c.requires.both.0 c.args.seat.now.me c.finish_out.new.seat.me c.finish_out.new.seat.me
    c.args.written c.finish_out.result c.args.sample (Busy 0 c.args.sample) c.requires.both.1
    c.finish_out.ensures.works.view_is c.finish_out.ensures.works.does c.requires.both.2.fits c.requires.both.2.size

pub bring_in-requires-clause-back : goal.bring_in-requires-clause-back
bring_in-requires-clause-back g c =
    may_come_in g.D.Disk g.V.Shown c.requires.both.0 c.args.seat.now.me c.finish_out.new.seat.me
    c.try_out-answer.new.seat.me c.args.written c.finish_out.result c.args.sample c.try_out-answer.result
    c.requires.both.1
    c.finish_out.ensures.works.view_is c.finish_out.ensures.works.does c.try_out-answer.ensures.works.view_is
    c.try_out-answer.ensures.works.does

pub end_round-requires-clause-turn : goal.end_round-requires-clause-turn
end_round-requires-clause-turn g c = record {
  table_is = c.bring_in.ensures.table ∙ c.try_out-answer.ensures.works.table_is
      ∙ c.finish_out.ensures.works.table_is ∙ c.requires.turn.table_is;
  word_is =
      (word_then g.D.Disk g.V.Shown c.requires.both.0 c.args.seat.now.me c.finish_out.new.seat.me
      c.try_out-answer.new.seat.me c.args.written c.finish_out.result c.args.sample c.try_out-answer.result
      c.requires.both.1
      c.finish_out.ensures.works.view_is c.finish_out.ensures.works.does c.try_out-answer.ensures.works.view_is
      c.try_out-answer.ensures.works.does c.bring_in.new.seat.me c.bring_in.ensures.back_in c.args.word
      c.requires.turn.word_is).0;
}

pub end_round-requires-clause-low : goal.end_round-requires-clause-low
end_round-requires-clause-low g c =
    (word_then g.D.Disk g.V.Shown c.requires.both.0 c.args.seat.now.me c.finish_out.new.seat.me
    c.try_out-answer.new.seat.me c.args.written c.finish_out.result c.args.sample c.try_out-answer.result
    c.requires.both.1
    c.finish_out.ensures.works.view_is c.finish_out.ensures.works.does c.try_out-answer.ensures.works.view_is
    c.try_out-answer.ensures.works.does c.bring_in.new.seat.me c.bring_in.ensures.back_in c.args.word
    c.requires.turn.word_is).1

pub end_round-requires-clause-returns : goal.end_round-requires-clause-returns
end_round-requires-clause-returns g c =
    may_end_append g.D.Disk g.V.Shown c.requires.both.0 c.args.seat.now.me c.finish_out.new.seat.me
    c.try_out-answer.new.seat.me c.args.written c.finish_out.result c.args.sample c.try_out-answer.result
    c.requires.both.1
    c.finish_out.ensures.works.view_is c.finish_out.ensures.works.does c.try_out-answer.ensures.works.view_is
    c.try_out-answer.ensures.works.does c.bring_in.new.seat.me c.bring_in.ensures.back_in
    c.requires.both.2.owns c.requires.both.3 c.requires.both.2.size

pub returns-clause-tried : goal.returns-clause-tried
returns-clause-tried g c y both single =
    subst (λ t. HasTried g.D.Disk g.V.Shown y c.end_round.new.seat.me.0 c.args.sample t)
    (sym (c.with_fault.ensures ∙ ap (λ told. round_answer told c.try_out-answer.result) c.answer_of-told.ensures))
    (tried_end g.D.Disk g.V.Shown y c.args.seat.now.me c.finish_out.new.seat.me c.try_out-answer.new.seat.me
    c.args.written c.finish_out.result c.args.sample c.try_out-answer.result both
    c.finish_out.ensures.works.view_is c.finish_out.ensures.works.does c.try_out-answer.ensures.works.view_is
    c.try_out-answer.ensures.works.does c.bring_in.new.seat.me c.bring_in.ensures.back_in
    (c.args.word + 1) c.end_round.new.seat.me c.end_round.ensures.ended single)

pub returns-clause-counts : goal.returns-clause-counts
returns-clause-counts g c = record {
  turns_are =
      c.end_round.ensures.counts.turns_are ∙ c.bring_in.ensures.counts.turns_are ∙ ap (λ (y : View). y.turns)
      c.try_out-answer.ensures.works.view_is ∙ ap (λ (y : View). y.turns) c.finish_out.ensures.works.view_is;
  due_is =
      c.end_round.ensures.counts.due_is ∙ c.bring_in.ensures.counts.due_is ∙ ap (λ (y : View). y.due)
      c.try_out-answer.ensures.works.view_is ∙ ap (λ (y : View). y.due) c.finish_out.ensures.works.view_is;
}

pub returns-clause-seat : goal.returns-clause-seat
returns-clause-seat g c = record {
  table_is =
      c.end_round.ensures.table ∙ c.bring_in.ensures.table ∙ c.try_out-answer.ensures.works.table_is ∙ c.finish_out.ensures.works.table_is;
  no_turn =
      let held = may_end_append g.D.Disk g.V.Shown c.requires.both.0 c.args.seat.now.me c.finish_out.new.seat.me
      c.try_out-answer.new.seat.me c.args.written c.finish_out.result c.args.sample c.try_out-answer.result
      c.requires.both.1 c.finish_out.ensures.works.view_is c.finish_out.ensures.works.does
      c.try_out-answer.ensures.works.view_is c.try_out-answer.ensures.works.does c.bring_in.new.seat.me
      c.bring_in.ensures.back_in c.requires.both.2.owns c.requires.both.3 c.requires.both.2.size in
      ap (λ (x : Here g.row.D.Denot g.row.V.Denot). x.1) (c.end_round.ensures.ended held.0 held.1);
}

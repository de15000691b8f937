use Rattle.std.proofs.Common.{◌+◌, ◌∙◌, subst}
use mathlib.Core.Option.{none}
use Rattle.atomic_table.specs.Table.{step}
use Rattle.book_shared.specs.Rounds.{HasWritten}
use Rattle.book_shared.proofs.Writing.{handed_back, handed_now, may_write, tells_now, sources_now, wrote_now, same_front}
use Rattle.book_shared.proofs.shared.SharedBook.write_block.Goals as goal

pub give-requires-clause-returns : goal.give-requires-clause-returns
give-requires-clause-returns g c = handed_back c.args.seat.now.me c.args.through c.args.block c.requires.handed

pub bring_out-requires-clause-handed : goal.bring_out-requires-clause-handed
bring_out-requires-clause-handed g c =
    let out = c.requires.handed in
    handed_now c.args.seat.now.me c.args.through c.args.block out (c.args.word + 1) c.give.new.seat.me
    (c.give.ensures.given out.new out.out)

pub write_out-written-requires-clause-back : goal.write_out-written-requires-clause-back
write_out-written-requires-clause-back g c =
    let out = c.requires.handed in
    may_write c.args.seat.now.me c.args.through c.args.block out g.D.Disk (c.args.word + 1) c.give.new.seat.me
    (c.give.ensures.given out.new out.out) (step 2 1 0 0 none) c.bring_out.ensures.out.0 c.bring_out.new.seat.me
    c.bring_out.ensures.out.1

pub returns-clause-written : goal.returns-clause-written
returns-clause-written g c new carried =
    let out = c.requires.handed in
    subst (λ f. HasWritten g.D.Disk c.args.seat.now.me c.args.word f c.seize-word.new.seat.me c.seize-word.result
    c.write_out-written.result)
    (same_front c.args.seat.now.me.1 out.new new out.out carried)
    (wrote_now c.args.seat.now.me c.args.through c.args.block out g.D.Disk c.args.word c.give.new.seat.me
    (c.give.ensures.given out.new out.out) (step 2 1 0 0 none) c.bring_out.ensures.out.0 c.bring_out.new.seat.me
    c.bring_out.ensures.out.1
    c.write_out-written.new.seat.me c.write_out-written.ensures.writes.view_is c.write_out-written.result
    c.write_out-written.ensures.writes.does c.answer_of.result c.answer_of.ensures
    c.seize-word.new.seat.me c.seize-word.result c.seize-word.ensures.word c.seize-word.ensures.took)

pub seize-word-requires : goal.seize-word-requires
seize-word-requires g c =
    let out = c.requires.handed in
    record {
      may = record {
        table_is = c.write_out-written.ensures.writes.table_is ∙ c.bring_out.ensures.table
            ∙ c.give.ensures.table ∙ c.requires.turn.table_is;
        some_source = sources_now c.args.seat.now.me c.args.through c.args.block out g.D.Disk c.args.word
            c.give.new.seat.me (c.give.ensures.given out.new out.out) (step 2 1 0 0 none) c.bring_out.ensures.out.0
            c.bring_out.new.seat.me c.bring_out.ensures.out.1 c.write_out-written.new.seat.me
            c.write_out-written.ensures.writes.view_is c.write_out-written.result c.write_out-written.ensures.writes.does
            c.requires.some_source;
        tells = tells_now c.args.seat.now.me c.args.through c.args.block out g.D.Disk c.args.word c.give.new.seat.me
            (c.give.ensures.given out.new out.out) (step 2 1 0 0 none) c.bring_out.ensures.out.0 c.bring_out.new.seat.me
            c.bring_out.ensures.out.1 c.write_out-written.new.seat.me c.write_out-written.ensures.writes.view_is
            c.write_out-written.result c.write_out-written.ensures.writes.does c.answer_of.result c.answer_of.ensures;
      };
    }

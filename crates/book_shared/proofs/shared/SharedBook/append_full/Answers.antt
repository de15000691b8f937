use Rattle.std.proofs.Common.{◌∙◌, ap, sym, subst, arith}
use Rattle.book_owned.specs.FrontHalf.{HandTells}
use Rattle.book_owned.specs.declared.handed.Handed.TheVariants as handed
use Rattle.book_shared.specs.Turns.{Works}
use Rattle.book_shared.specs.declared.view.View.{View}
use Rattle.book_shared.proofs.Lists.{one_source}
use Rattle.book_shared.proofs.Takings.{may_hand}
use Rattle.book_shared.proofs.Flushes.{hand_of, turned_word, turned_sources}
use Rattle.book_shared.proofs.Handing.{both_full, hands_some, tried_full, turned_full}
use Rattle.book_shared.proofs.shared.SharedBook.append_full.Goals as goal

pub hand_out-requires-clause-front : goal.hand_out-requires-clause-front
hand_out-requires-clause-front g c = may_hand c.requires.full.0 c.args.seat.now.me c.requires.full.1.seized

pub write_block-word-requires-clause-turn : goal.write_block-word-requires-clause-turn
write_block-word-requires-clause-turn g c = record {
  table_is = c.hand_out.ensures.works.table_is ∙ c.requires.turn.table_is;
  word_is =
      c.requires.turn.word_is ∙ ap (λ (y : View). y.met) (sym c.hand_out.ensures.works.view_is);
}

pub write_block-word-requires-clause-low : goal.write_block-word-requires-clause-low
write_block-word-requires-clause-low g c =
    let works = subst (λ what. Works c.args.seat.now.me c.hand_out.new.seat.me (λ old new. HandTells old new what))
    c.in-Given.is c.hand_out.ensures.works.does in
    let turned = turned_full c.requires.full.0 c.args.seat.now.me c.hand_out.new.seat.me c.args.sample c.requires.full.1
    c.in-Given.through c.in-Given.block c.hand_out.ensures.works.view_is works in
    turned_word c.requires.full.0 c.hand_out.new.seat.me (handed.Given c.in-Given.through c.in-Given.block) c.args.word
    turned (c.requires.turn.word_is ∙ ap (λ (y : View). y.met) (sym c.hand_out.ensures.works.view_is))

pub write_block-word-requires-clause-some_source : goal.write_block-word-requires-clause-some_source
write_block-word-requires-clause-some_source g c =
    let works = subst (λ what. Works c.args.seat.now.me c.hand_out.new.seat.me (λ old new. HandTells old new what))
    c.in-Given.is c.hand_out.ensures.works.does in
    let turned = turned_full c.requires.full.0 c.args.seat.now.me c.hand_out.new.seat.me c.args.sample c.requires.full.1
    c.in-Given.through c.in-Given.block c.hand_out.ensures.works.view_is works in
    turned_sources c.requires.full.0 c.hand_out.new.seat.me (handed.Given c.in-Given.through c.in-Given.block) turned
    (one_source _ c.requires.full.0.mine _ c.requires.full.2.owns)

pub write_block-word-requires-clause-handed : goal.write_block-word-requires-clause-handed
write_block-word-requires-clause-handed g c =
    let works = subst (λ what. Works c.args.seat.now.me c.hand_out.new.seat.me (λ old new. HandTells old new what))
    c.in-Given.is c.hand_out.ensures.works.does in
    let turned = turned_full c.requires.full.0 c.args.seat.now.me c.hand_out.new.seat.me c.args.sample c.requires.full.1
    c.in-Given.through c.in-Given.block c.hand_out.ensures.works.view_is works in
    hand_of c.requires.full.0 c.hand_out.new.seat.me (handed.Given c.in-Given.through c.in-Given.block) turned

pub append_written-requires-clause-turn : goal.append_written-requires-clause-turn
append_written-requires-clause-turn g c = λ κs outlives. record {
  table_is = c.write_block-word.ensures.table ∙ c.hand_out.ensures.works.table_is ∙ c.requires.turn.table_is;
  word_is =
      let works = subst (λ what. Works c.args.seat.now.me c.hand_out.new.seat.me (λ old new. HandTells old new what))
      c.in-Given.is c.hand_out.ensures.works.does in
      let turned = turned_full c.requires.full.0 c.args.seat.now.me c.hand_out.new.seat.me c.args.sample
      c.requires.full.1
      c.in-Given.through c.in-Given.block c.hand_out.ensures.works.view_is works in
      (c.write_block-word.ensures.written turned.new turned.out).met;
}

pub append_written-requires-clause-both : goal.append_written-requires-clause-both
append_written-requires-clause-both g c =
    let works = subst (λ what. Works c.args.seat.now.me c.hand_out.new.seat.me (λ old new. HandTells old new what))
    c.in-Given.is c.hand_out.ensures.works.does in
    let turned = turned_full c.requires.full.0 c.args.seat.now.me c.hand_out.new.seat.me c.args.sample c.requires.full.1
    c.in-Given.through c.in-Given.block c.hand_out.ensures.works.view_is works in
    λ κs outlives.
    both_full c.requires.full.0 c.args.seat.now.me c.hand_out.new.seat.me c.args.sample c.requires.full.1
    c.in-Given.through c.in-Given.block c.hand_out.ensures.works.view_is works g.D.Disk
    c.args.word c.write_block-word.new.seat.me c.write_block-word.result.0 c.write_block-word.result.1
    (c.write_block-word.ensures.written turned.new turned.out)
    c.requires.full.2

pub returns-clause-tried : goal.returns-clause-tried
returns-clause-tried g c v full single =
    let works = subst (λ what. Works c.args.seat.now.me c.hand_out.new.seat.me (λ old new. HandTells old new what))
    c.in-Given.is c.hand_out.ensures.works.does in
    let turned = turned_full v c.args.seat.now.me c.hand_out.new.seat.me c.args.sample full c.in-Given.through
    c.in-Given.block c.hand_out.ensures.works.view_is works in
    tried_full v c.args.seat.now.me c.hand_out.new.seat.me c.args.sample full c.in-Given.through c.in-Given.block
    c.hand_out.ensures.works.view_is works g.D.Disk g.V.Shown
    c.args.word c.write_block-word.new.seat.me c.write_block-word.result.0 c.write_block-word.result.1
    c.append_written.new.seat.me.0 c.append_written.result
    (c.write_block-word.ensures.written turned.new turned.out) single c.append_written.ensures.tried

pub returns-clause-counts : goal.returns-clause-counts
returns-clause-counts g c = record {
  turns_are =
      let works = subst (λ what. Works c.args.seat.now.me c.hand_out.new.seat.me (λ old new. HandTells old new what))
      c.in-Given.is c.hand_out.ensures.works.does in
      let turned = turned_full c.requires.full.0 c.args.seat.now.me c.hand_out.new.seat.me c.args.sample
      c.requires.full.1 c.in-Given.through c.in-Given.block c.hand_out.ensures.works.view_is works in
      omega (
        arith,
        c.append_written.ensures.counts.turns_are,
        ap (λ (y : View). y.turns)
            (c.write_block-word.ensures.written turned.new turned.out).took.rest,
        ap (λ (y : View). y.turns)
            c.hand_out.ensures.works.view_is,
      );
  due_is =
      let works = subst (λ what. Works c.args.seat.now.me c.hand_out.new.seat.me (λ old new. HandTells old new what))
      c.in-Given.is c.hand_out.ensures.works.does in
      let turned = turned_full c.requires.full.0 c.args.seat.now.me c.hand_out.new.seat.me c.args.sample
      c.requires.full.1 c.in-Given.through c.in-Given.block c.hand_out.ensures.works.view_is works in
      c.append_written.ensures.counts.due_is ∙ ap (λ (y : View). y.due)
      (c.write_block-word.ensures.written turned.new turned.out).took.rest ∙ ap (λ (y : View). y.due)
      c.hand_out.ensures.works.view_is;
}

pub unreachable-requires-in-Nothing : goal.unreachable-requires-in-Nothing
unreachable-requires-in-Nothing g c =
    let works = subst (λ what. Works c.args.seat.now.me c.hand_out.new.seat.me (λ old new. HandTells old new what))
    c.in-Nothing.is c.hand_out.ensures.works.does in
    hands_some c.requires.full.0 c.args.seat.now.me c.hand_out.new.seat.me c.args.sample c.requires.full.1
    c.requires.full.2 c.hand_out.ensures.works.view_is works

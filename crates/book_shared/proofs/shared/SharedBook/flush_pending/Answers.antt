use Rattle.std.proofs.Common.{◌+◌, ◌∙◌, ap, sym, subst, false, arith}
use Rattle.book_owned.specs.FrontHalf.{HandTells}
use Rattle.book_owned.specs.declared.handed.Handed.TheVariants.{Given}
use Rattle.book_shared.specs.Basis.{writing}
use Rattle.book_shared.specs.Plays.{at_device, given}
use Rattle.book_shared.specs.Turns.{Works}
use Rattle.book_shared.specs.declared.view.View.{View}
use Rattle.book_shared.proofs.Takings.{may_hand, turned_now}
use Rattle.book_shared.proofs.Following.{flushed_later}
use Rattle.book_shared.proofs.Writing.{same_front}
use Rattle.book_shared.proofs.Flushes.{hand_of, both_of, follows_wrote, lacks_handed, turned_sources}
use Rattle.book_shared.proofs.shared.SharedBook.flush_pending.Goals as goal

pub hand_out-requires-clause-front : goal.hand_out-requires-clause-front
hand_out-requires-clause-front g c = may_hand c.requires.pending.0 c.args.seat.now.me c.requires.pending.1.seized

pub write_block-word-requires-clause-turn : goal.write_block-word-requires-clause-turn
write_block-word-requires-clause-turn g c = record {
  table_is = c.hand_out.ensures.works.table_is ∙ c.requires.turn.table_is;
  word_is =
      c.requires.turn.word_is ∙ ap (λ (y : View). y.met) (sym c.hand_out.ensures.works.view_is);
}

pub write_block-word-requires-clause-low : goal.write_block-word-requires-clause-low
write_block-word-requires-clause-low g c = omega (arith, c.requires.turn.word_is, c.requires.pending.1.seized.took.low)

pub write_block-word-requires-clause-some_source : goal.write_block-word-requires-clause-some_source
write_block-word-requires-clause-some_source g c =
    let works = subst (λ what. Works c.args.seat.now.me c.hand_out.new.seat.me (λ old new. HandTells old new what))
    c.in-Given.is c.hand_out.ensures.works.does in
    let turned = turned_now c.requires.pending.0 c.args.seat.now.me c.hand_out.new.seat.me
    (Given c.in-Given.through c.in-Given.block) c.requires.pending.1.seized c.hand_out.ensures.works.view_is works in
    turned_sources c.requires.pending.0 c.hand_out.new.seat.me (Given c.in-Given.through c.in-Given.block) turned c.requires.pending.2

pub write_block-word-requires-clause-handed : goal.write_block-word-requires-clause-handed
write_block-word-requires-clause-handed g c =
    let works = subst (λ what. Works c.args.seat.now.me c.hand_out.new.seat.me (λ old new. HandTells old new what))
    c.in-Given.is c.hand_out.ensures.works.does in
    let turned = turned_now c.requires.pending.0 c.args.seat.now.me c.hand_out.new.seat.me
    (Given c.in-Given.through c.in-Given.block) c.requires.pending.1.seized c.hand_out.ensures.works.view_is works in
    hand_of c.requires.pending.0 c.hand_out.new.seat.me (Given c.in-Given.through c.in-Given.block) turned

pub flush_written-requires-clause-turn : goal.flush_written-requires-clause-turn
flush_written-requires-clause-turn g c = λ κs outlives. record {
  table_is = c.write_block-word.ensures.table ∙ c.hand_out.ensures.works.table_is ∙ c.requires.turn.table_is;
  word_is =
      let works = subst (λ what. Works c.args.seat.now.me c.hand_out.new.seat.me (λ old new. HandTells old new what))
      c.in-Given.is c.hand_out.ensures.works.does in
      let turned = turned_now c.requires.pending.0 c.args.seat.now.me c.hand_out.new.seat.me
      (Given c.in-Given.through c.in-Given.block) c.requires.pending.1.seized c.hand_out.ensures.works.view_is works in
      (c.write_block-word.ensures.written turned.new turned.out).met;
}

pub flush_written-requires-clause-both : goal.flush_written-requires-clause-both
flush_written-requires-clause-both g c =
    let works = subst (λ what. Works c.args.seat.now.me c.hand_out.new.seat.me (λ old new. HandTells old new what))
    c.in-Given.is c.hand_out.ensures.works.does in
    let turned = turned_now c.requires.pending.0 c.args.seat.now.me c.hand_out.new.seat.me
    (Given c.in-Given.through c.in-Given.block) c.requires.pending.1.seized c.hand_out.ensures.works.view_is works in
    λ κs outlives. (
      at_device (given false c.hand_out.new.seat.me.0 (c.args.word + 1) turned.new) writing,
      both_of c.requires.pending.0 c.hand_out.new.seat.me c.in-Given.through c.in-Given.block turned c.args.word
          g.D.Disk c.write_block-word.new.seat.me
          c.write_block-word.result.0 c.write_block-word.result.1 (c.write_block-word.ensures.written turned.new turned.out),
    )

pub returns-clause-flushed : goal.returns-clause-flushed
returns-clause-flushed g c v pending number single =
    let works = subst (λ what. Works c.args.seat.now.me c.hand_out.new.seat.me (λ old new. HandTells old new what))
    c.in-Given.is c.hand_out.ensures.works.does in
    let turned = turned_now v c.args.seat.now.me c.hand_out.new.seat.me (Given c.in-Given.through c.in-Given.block)
    pending.seized c.hand_out.ensures.works.view_is works in
    let y = at_device (given false c.hand_out.new.seat.me.0 (c.args.word + 1) turned.new) writing in
    let on = follows_wrote v c.hand_out.new.seat.me c.in-Given.through c.in-Given.block turned c.args.word in
    flushed_later v y c.flush_written.new.seat.me.0 on g.D.Disk g.V.Shown c.flush_written.result
    (c.flush_written.ensures.flushed y
    (both_of v c.hand_out.new.seat.me c.in-Given.through c.in-Given.block turned c.args.word g.D.Disk c.write_block-word.new.seat.me
    c.write_block-word.result.0 c.write_block-word.result.1 (c.write_block-word.ensures.written turned.new turned.out))
    number (on.single number single))

pub returns-clause-wrote : goal.returns-clause-wrote
returns-clause-wrote g c front carried count lacks =
    let v = c.requires.pending.0 in
    let seized = c.requires.pending.1.seized in
    let works = subst (λ what. Works c.args.seat.now.me c.hand_out.new.seat.me (λ old new. HandTells old new what))
    c.in-Given.is c.hand_out.ensures.works.does in
    let turned = turned_now v c.args.seat.now.me c.hand_out.new.seat.me (Given c.in-Given.through c.in-Given.block)
    seized c.hand_out.ensures.works.view_is works in
    c.flush_written.ensures.wrote (at_device (given false c.hand_out.new.seat.me.0 (c.args.word + 1) turned.new) writing)
    (both_of v c.hand_out.new.seat.me c.in-Given.through c.in-Given.block turned c.args.word g.D.Disk c.write_block-word.new.seat.me
    c.write_block-word.result.0 c.write_block-word.result.1 (c.write_block-word.ensures.written turned.new turned.out))
    count
    (lacks_handed v c.hand_out.new.seat.me c.in-Given.through c.in-Given.block turned c.args.word count front
    (same_front c.args.seat.now.me.1 front seized.front carried seized.out) lacks)

pub returns-clause-counts : goal.returns-clause-counts
returns-clause-counts g c = record {
  turns_are =
      let works = subst (λ what. Works c.args.seat.now.me c.hand_out.new.seat.me (λ old new. HandTells old new what))
      c.in-Given.is c.hand_out.ensures.works.does in
      let turned = turned_now c.requires.pending.0 c.args.seat.now.me c.hand_out.new.seat.me
      (Given c.in-Given.through c.in-Given.block) c.requires.pending.1.seized c.hand_out.ensures.works.view_is works in
      omega (
        arith,
        c.flush_written.ensures.counts.turns_are,
        ap (λ (y : View). y.turns)
            (c.write_block-word.ensures.written turned.new turned.out).took.rest,
        ap (λ (y : View). y.turns)
            c.hand_out.ensures.works.view_is,
      );
  due_is =
      let works = subst (λ what. Works c.args.seat.now.me c.hand_out.new.seat.me (λ old new. HandTells old new what))
      c.in-Given.is c.hand_out.ensures.works.does in
      let turned = turned_now c.requires.pending.0 c.args.seat.now.me c.hand_out.new.seat.me
      (Given c.in-Given.through c.in-Given.block) c.requires.pending.1.seized c.hand_out.ensures.works.view_is works in
      c.flush_written.ensures.counts.due_is ∙ ap (λ (y : View). y.due)
      (c.write_block-word.ensures.written turned.new turned.out).took.rest ∙ ap (λ (y : View). y.due)
      c.hand_out.ensures.works.view_is;
}

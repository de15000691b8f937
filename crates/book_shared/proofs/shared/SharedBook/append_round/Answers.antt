use Rattle.std.proofs.Common.{◌+◌, [], ◌∙◌, ap, sym, subst, arith}
use Rattle.std.specs.Prelude.{Some}
use Rattle.book_shared.specs.Basis.{resting}
use Rattle.book_shared.specs.Plays.{Here, at_device}
use Rattle.book_shared.specs.Rounds.{wanted, HasTried}
use Rattle.book_shared.specs.Told.{Puts}
use Rattle.book_shared.specs.Turns.{Works}
use Rattle.book_shared.specs.declared.view.View.{View}
use Rattle.book_shared.proofs.Given.{may_take}
use Rattle.book_shared.proofs.Lists.{one_source}
use Rattle.book_shared.proofs.Following.{follows_due, tried_later}
use Rattle.book_shared.proofs.Handing.{back_full, end_put, full_may, may_want, only_new, tried_put, wants_it}
use Rattle.book_shared.proofs.shared.SharedBook.append_round.Goals as goal

pub try_out-requires-clause-front : goal.try_out-requires-clause-front
try_out-requires-clause-front g c =
    let seized = c.device_turn-word.ensures.seized in
    may_take (at_device (wanted c.args.seat.now.me.0 (Some c.args.sample)) resting) c.device_turn-word.new.seat.me.0
    resting c.device_turn-word.new.seat.me seized.front [] c.args.sample seized.out seized.took c.requires.may.fits
    c.requires.may.size

pub append_full-requires-clause-turn : goal.append_full-requires-clause-turn
append_full-requires-clause-turn g c = λ κs outlives. record {
  table_is = c.try_out.ensures.works.table_is ∙ c.device_turn-word.ensures.table ∙ c.requires.seat.table_is;
  word_is =
      c.device_turn-word.ensures.word ∙ ap (λ (y : View). y.met) (sym c.try_out.ensures.works.view_is);
}

pub append_full-requires-clause-full : goal.append_full-requires-clause-full
append_full-requires-clause-full g c =
    let works = subst (λ what. Works c.device_turn-word.new.seat.me c.try_out.new.seat.me
    (λ old new. Puts old new c.args.sample what)) c.in-NeedsFlush.is c.try_out.ensures.works.does in
    λ κs outlives.
    full_may (wanted c.args.seat.now.me.0 (Some c.args.sample)) c.device_turn-word.new.seat.me c.try_out.new.seat.me
    c.args.sample c.device_turn-word.ensures.seized c.try_out.ensures.works.view_is
    c.in-NeedsFlush.held c.in-NeedsFlush.size c.in-NeedsFlush.limit c.in-NeedsFlush.sample works
    (wants_it c.args.seat.now.me.0 c.args.sample) (may_want c.args.seat.now.me.0 c.args.sample c.requires.may)

pub returns-in-NeedsFlush-clause-tried : goal.returns-in-NeedsFlush-clause-tried
returns-in-NeedsFlush-clause-tried g c =
    let v = c.args.seat.now.me.0 in
    let w = wanted v (Some c.args.sample) in
    let works = subst (λ what. Works c.device_turn-word.new.seat.me c.try_out.new.seat.me
    (λ old new. Puts old new c.args.sample what)) c.in-NeedsFlush.is c.try_out.ensures.works.does in
    let may = full_may w c.device_turn-word.new.seat.me c.try_out.new.seat.me c.args.sample
    c.device_turn-word.ensures.seized c.try_out.ensures.works.view_is
    c.in-NeedsFlush.held c.in-NeedsFlush.size c.in-NeedsFlush.limit c.in-NeedsFlush.sample works
    (wants_it c.args.seat.now.me.0 c.args.sample) (may_want c.args.seat.now.me.0 c.args.sample c.requires.may) in
    subst (λ s. HasTried g.D.Disk g.V.Shown v c.append_full.new.seat.me.0 s c.append_full.result)
    (back_full w c.device_turn-word.new.seat.me c.try_out.new.seat.me c.args.sample c.device_turn-word.ensures.seized
    c.try_out.ensures.works.view_is
    c.in-NeedsFlush.held c.in-NeedsFlush.size c.in-NeedsFlush.limit c.in-NeedsFlush.sample works (wants_it v c.args.sample))
    (tried_later v w c.append_full.new.seat.me.0 (follows_due v (Some c.args.sample)) g.D.Disk g.V.Shown
    c.in-NeedsFlush.sample c.append_full.result (c.append_full.ensures.tried w may.1 may.2.owns))

pub end_round-requires-clause-turn : goal.end_round-requires-clause-turn
end_round-requires-clause-turn g c = record {
  table_is = c.try_out.ensures.works.table_is ∙ c.device_turn-word.ensures.table ∙ c.requires.seat.table_is;
  word_is =
      c.device_turn-word.ensures.word ∙ ap (λ (y : View). y.met) (sym c.try_out.ensures.works.view_is);
}

pub end_round-requires-clause-low : goal.end_round-requires-clause-low
end_round-requires-clause-low g c = omega (arith, c.device_turn-word.ensures.word, c.device_turn-word.ensures.seized.took.low)

pub end_round-requires-clause-returns : goal.end_round-requires-clause-returns
end_round-requires-clause-returns g c =
    let works = subst (λ what. Works c.device_turn-word.new.seat.me c.try_out.new.seat.me
    (λ old new. Puts old new c.args.sample what)) c.in-Answered.is c.try_out.ensures.works.does in
    end_put (wanted c.args.seat.now.me.0 (Some c.args.sample)) c.device_turn-word.new.seat.me c.try_out.new.seat.me
    c.args.sample c.device_turn-word.ensures.seized c.try_out.ensures.works.view_is c.in-Answered.answer works
    c.requires.may.owns

pub returns-in-Answered-clause-tried : goal.returns-in-Answered-clause-tried
returns-in-Answered-clause-tried g c =
    let works = subst (λ what. Works c.device_turn-word.new.seat.me c.try_out.new.seat.me
    (λ old new. Puts old new c.args.sample what)) c.in-Answered.is c.try_out.ensures.works.does in
    let v = c.args.seat.now.me.0 in
    tried_later v (wanted v (Some c.args.sample)) c.end_round.new.seat.me.0 (follows_due v (Some c.args.sample))
    g.D.Disk g.V.Shown c.args.sample _
    (tried_put (wanted v (Some c.args.sample)) c.device_turn-word.new.seat.me c.try_out.new.seat.me c.args.sample
    c.device_turn-word.ensures.seized c.try_out.ensures.works.view_is c.in-Answered.answer works
    g.D.Disk g.V.Shown (c.device_turn-word.result + 1) c.end_round.new.seat.me c.end_round.ensures.ended c.requires.may.owns)

pub returns-in-NeedsFlush-clause-turns : goal.returns-in-NeedsFlush-clause-turns
returns-in-NeedsFlush-clause-turns g c =
    omega (
      arith,
      c.append_full.ensures.counts.turns_are,
      ap (λ (y : View). y.turns) c.try_out.ensures.works.view_is,
      ap
          (λ (y : View). y.turns) c.device_turn-word.ensures.seized.took.rest,
    )

pub returns-in-Answered-clause-turns : goal.returns-in-Answered-clause-turns
returns-in-Answered-clause-turns g c =
    omega (
      arith,
      c.end_round.ensures.counts.turns_are,
      ap (λ (y : View). y.turns) c.try_out.ensures.works.view_is,
      ap
          (λ (y : View). y.turns) c.device_turn-word.ensures.seized.took.rest,
    )

pub returns-in-NeedsFlush-clause-due : goal.returns-in-NeedsFlush-clause-due
returns-in-NeedsFlush-clause-due g c =
    only_new c.args.seat.now.me.0 c.append_full.new.seat.me.0 c.args.sample
    (c.append_full.ensures.counts.due_is ∙ ap (λ (y : View). y.due) c.try_out.ensures.works.view_is ∙ ap
    (λ (y : View). y.due) c.device_turn-word.ensures.seized.took.rest)

pub returns-in-Answered-clause-due : goal.returns-in-Answered-clause-due
returns-in-Answered-clause-due g c =
    only_new c.args.seat.now.me.0 c.end_round.new.seat.me.0 c.args.sample
    (c.end_round.ensures.counts.due_is ∙ ap (λ (y : View). y.due) c.try_out.ensures.works.view_is ∙ ap
    (λ (y : View). y.due) c.device_turn-word.ensures.seized.took.rest)

pub returns-in-Answered-clause-seat : goal.returns-in-Answered-clause-seat
returns-in-Answered-clause-seat g c = record {
  table_is = c.end_round.ensures.table ∙ c.try_out.ensures.works.table_is ∙ c.device_turn-word.ensures.table;
  no_turn =
      let works = subst (λ what. Works c.device_turn-word.new.seat.me c.try_out.new.seat.me
      (λ old new. Puts old new c.args.sample what)) c.in-Answered.is c.try_out.ensures.works.does in
      let held = end_put (wanted c.args.seat.now.me.0 (Some c.args.sample)) c.device_turn-word.new.seat.me
      c.try_out.new.seat.me c.args.sample c.device_turn-word.ensures.seized c.try_out.ensures.works.view_is
      c.in-Answered.answer works c.requires.may.owns in
      ap (λ (x : Here g.row.D.Denot g.row.V.Denot). x.1) (c.end_round.ensures.ended held.0 held.1);
}

pub device_turn-word-requires : goal.device_turn-word-requires
device_turn-word-requires g c = record {
  may = record {
    empty = c.requires.seat;
    some_source = one_source _ c.args.seat.now.me.0.mine _ c.requires.may.owns;
  };
}

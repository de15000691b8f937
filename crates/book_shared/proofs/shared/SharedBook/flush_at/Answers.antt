use Rattle.std.proofs.Common.{[], ◌∙◌, sym, subst, inl, inr, arith}
use Rattle.book_shared.specs.Told.{FlushesFor}
use Rattle.book_shared.proofs.Following.{first_later, follows_served, flushed_later}
use Rattle.book_shared.proofs.shared.SharedBook.flush_at.Goals as goal

pub flush_round-requires-clause-single : goal.flush_round-requires-clause-single
flush_round-requires-clause-single g c =
    λ κs outlives. (c.requires.single.0, c.in-Err.ensures.seen.rests.single c.requires.single.0 c.requires.single.1)

pub flush_round-requires-clause-accepted : goal.flush_round-requires-clause-accepted
flush_round-requires-clause-accepted g c = λ κs outlives. c.in-Err.ensures.seen.accepted_is

pub flush_round-requires-clause-own : goal.flush_round-requires-clause-own
flush_round-requires-clause-own g c = λ κs outlives. c.in-Err.ensures.seen.served.own

pub returns-in-Ok-clause-turns : goal.returns-in-Ok-clause-turns
returns-in-Ok-clause-turns g c = omega (arith, c.flush_first.ensures.counts.turns_are)

pub returns-in-Err-clause-turns : goal.returns-in-Err-clause-turns
returns-in-Err-clause-turns g c = omega (arith, c.flush_round.ensures.turns, c.flush_first.ensures.counts.turns_are)

pub returns-in-Err-clause-due : goal.returns-in-Err-clause-due
returns-in-Err-clause-due g c = c.flush_round.ensures.due ∙ c.flush_first.ensures.counts.due_is

pub returns-in-Err-clause-flushed : goal.returns-in-Err-clause-flushed
returns-in-Err-clause-flushed g c =
    let v = c.args.seat.now.me.0 in
    let y = c.flush_first.new.seat.me.0 in
    let seen = c.in-Err.ensures.seen in
    flushed_later v y c.flush_round.new.seat.me.0 (follows_served v y seen.history seen.served seen.rests seen.asked)
    g.D.Disk g.V.Shown c.flush_round.result c.flush_round.ensures.flushed

pub returns-in-Err-clause-first : goal.returns-in-Err-clause-first
returns-in-Err-clause-first g c =
    let seen = c.in-Err.ensures.seen in
    record {
      met = seen.met;
      first = first_later c.args.seat.now.me.0 c.flush_first.new.seat.me.0 c.flush_round.new.seat.me.0 seen.met
          ([], seen.found) c.flush_round.ensures.flushed.flushes.1.found;
      flushes = subst (λ n. FlushesFor n c.flush_round.new.seat.me.0 c.flush_round.result) (sym seen.met_is) c.flush_round.ensures.wrote;
    }

pub returns-in-Ok-clause-one : goal.returns-in-Ok-clause-one
returns-in-Ok-clause-one g c = inl (c.flush_first.ensures.counts.turns_are, c.flush_first.ensures.rounds)

pub returns-in-Err-clause-one : goal.returns-in-Err-clause-one
returns-in-Err-clause-one g c =
    let seen = c.in-Err.ensures.seen in
    inr record {
      met = seen.met;
      first = first_later c.args.seat.now.me.0 c.flush_first.new.seat.me.0 c.flush_round.new.seat.me.0 seen.met
          ([], seen.found) c.flush_round.ensures.flushed.flushes.1.found;
      going = seen.going;
      lacks = seen.lacks;
    }

pub flush_round-requires-clause-seat : goal.flush_round-requires-clause-seat
flush_round-requires-clause-seat g c = λ κs outlives. record {
  table_is = c.flush_first.ensures.seat.table_is ∙ c.requires.seat.table_is;
  no_turn = c.flush_first.ensures.seat.no_turn;
  no_device = c.in-Err.ensures.seen.rests.no_device;
}

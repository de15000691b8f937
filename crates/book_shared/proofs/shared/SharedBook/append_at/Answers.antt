use Rattle.std.proofs.Common.{[], length, length-append, refl, subst, ap, inl, inr, arith, ◌∙◌}
use Rattle.book_shared.specs.Rounds.{HasTried, IsOneRound}
use Rattle.book_shared.specs.Turns.{OnlyDue}
use Rattle.book_shared.specs.declared.answer.Try.TheVariants.{Answered}
use Rattle.book_shared.proofs.Following.{follows_on, follows_self, follows_served, served_seen, round_found, round_seen}
use Rattle.book_shared.proofs.Handing.{announced_on, may_later, appended_now, blocked_on, one_on, only_on, only_same}
use Rattle.book_shared.proofs.shared.SharedBook.append_at.Goals as goal

pub returns-in-Answered-clause-appends : goal.returns-in-Answered-clause-appends
returns-in-Answered-clause-appends g c =
    (appended_now g.D.Disk g.V.Shown c.args.seat.now.me.0 c.append_once.new.seat.me.0 c.args.sample c.loop.seat.me.0
    c.loop.left c.in-Answered.answer c.loop.invariant.4 c.loop.invariant.3
    (subst (HasTried g.D.Disk g.V.Shown c.loop.seat.me.0 c.append_once.new.seat.me.0 c.loop.left) c.in-Answered.is
    c.append_once.ensures.tried)).round.0

pub returns-in-Answered-clause-front : goal.returns-in-Answered-clause-front
returns-in-Answered-clause-front g c =
    (appended_now g.D.Disk g.V.Shown c.args.seat.now.me.0 c.append_once.new.seat.me.0 c.args.sample c.loop.seat.me.0
    c.loop.left c.in-Answered.answer c.loop.invariant.4 c.loop.invariant.3
    (subst (HasTried g.D.Disk g.V.Shown c.loop.seat.me.0 c.append_once.new.seat.me.0 c.loop.left) c.in-Answered.is
    c.append_once.ensures.tried)).round.1

pub returns-in-Answered-clause-rests : goal.returns-in-Answered-clause-rests
returns-in-Answered-clause-rests g c =
    (appended_now g.D.Disk g.V.Shown c.args.seat.now.me.0 c.append_once.new.seat.me.0 c.args.sample c.loop.seat.me.0
    c.loop.left c.in-Answered.answer c.loop.invariant.4 c.loop.invariant.3
    (subst (HasTried g.D.Disk g.V.Shown c.loop.seat.me.0 c.append_once.new.seat.me.0 c.loop.left) c.in-Answered.is
    c.append_once.ensures.tried)).rests

pub returns-in-Answered-clause-asked : goal.returns-in-Answered-clause-asked
returns-in-Answered-clause-asked g c =
    (appended_now g.D.Disk g.V.Shown c.args.seat.now.me.0 c.append_once.new.seat.me.0 c.args.sample c.loop.seat.me.0
    c.loop.left c.in-Answered.answer c.loop.invariant.4 c.loop.invariant.3
    (subst (HasTried g.D.Disk g.V.Shown c.loop.seat.me.0 c.append_once.new.seat.me.0 c.loop.left) c.in-Answered.is
    c.append_once.ensures.tried)).asked

pub loop-preserved : goal.loop-preserved
loop-preserved g c =
    let v = c.args.seat.now.me.0 in
    let y = c.loop.seat.me.0 in
    let x = c.append_once.new.seat.me.0 in
    let tried = subst (HasTried g.D.Disk g.V.Shown y x c.loop.left) c.in-NeedsFlush.is c.append_once.ensures.tried in (
      c.append_once.ensures.seat.table_is ∙ c.loop.invariant.0,
      c.append_once.ensures.seat.no_turn,
      tried.rests.no_device,
      tried.round.1 ∙ c.loop.invariant.3,
      follows_on v y x c.loop.invariant.4 (follows_served y x tried.round.0.0 tried.round.0.1 tried.rests tried.asked),
      omega (arith, c.append_once.ensures.turns, c.loop.invariant.5, tried.round.2),
      inr (blocked_on v y x c.args.sample c.loop.left c.loop.invariant.3 c.loop.invariant.6
          (served_seen y x tried.round.0.0 [] tried.round.0.1) tried.round.0.1.found tried.marks tried.rests.basis_is
          (subst (IsOneRound y x c.loop.left) c.in-NeedsFlush.is c.append_once.ensures.one)),
      only_on v y x c.args.sample c.loop.invariant.7 (subst (OnlyDue y x) c.loop.invariant.3 c.append_once.ensures.due),
    )

pub returns-in-Answered-clause-turns : goal.returns-in-Answered-clause-turns
returns-in-Answered-clause-turns g c =
    let y = c.loop.seat.me.0 in
    let tried = subst (HasTried g.D.Disk g.V.Shown y c.append_once.new.seat.me.0 c.loop.left) c.in-Answered.is
    c.append_once.ensures.tried in
    let kept = tried.round.0.1.kept in
    omega (arith, c.append_once.ensures.turns, c.loop.invariant.5, ap length kept.1, length-append y.kept kept.0)

pub loop-init : goal.loop-init
loop-init g c = (
  refl,
  c.requires.seat.no_turn,
  c.requires.seat.no_device,
  refl,
  follows_self c.args.seat.now.me.0,
  omega arith,
  inl
      refl,
  only_same c.args.seat.now.me.0 c.args.seat.now.me.0 c.args.sample refl,
)

pub returns-in-Answered-clause-one : goal.returns-in-Answered-clause-one
returns-in-Answered-clause-one g c =
    let y = c.loop.seat.me.0 in
    let x = c.append_once.new.seat.me.0 in
    let tried = subst (HasTried g.D.Disk g.V.Shown y x c.loop.left) c.in-Answered.is c.append_once.ensures.tried in
    one_on c.args.seat.now.me.0 y x c.args.sample c.loop.left c.loop.invariant.3 c.loop.invariant.6
    (round_seen g.D.Disk g.V.Shown y x c.loop.left (Answered c.in-Answered.answer) tried.round)
    (round_found g.D.Disk g.V.Shown y x c.loop.left (Answered c.in-Answered.answer) tried.round) tried.marks tried.rests.basis_is
    (subst (IsOneRound y x c.loop.left) c.in-Answered.is c.append_once.ensures.one)

pub returns-in-Answered-clause-announces : goal.returns-in-Answered-clause-announces
returns-in-Answered-clause-announces g c =
    let y = c.loop.seat.me.0 in
    let x = c.append_once.new.seat.me.0 in
    let tried = subst (HasTried g.D.Disk g.V.Shown y x c.loop.left) c.in-Answered.is c.append_once.ensures.tried in
    announced_on c.args.seat.now.me.0 y x c.args.sample c.loop.left c.loop.invariant.3 c.loop.invariant.6
    (round_seen g.D.Disk g.V.Shown y x c.loop.left (Answered c.in-Answered.answer) tried.round)
    (round_found g.D.Disk g.V.Shown y x c.loop.left (Answered c.in-Answered.answer) tried.round) tried.marks
    tried.rests.basis_is c.append_once.ensures.announces

pub returns-in-Answered-clause-due : goal.returns-in-Answered-clause-due
returns-in-Answered-clause-due g c =
    only_on c.args.seat.now.me.0 c.loop.seat.me.0 c.append_once.new.seat.me.0 c.args.sample c.loop.invariant.7
    (subst (OnlyDue c.loop.seat.me.0 c.append_once.new.seat.me.0) c.loop.invariant.3 c.append_once.ensures.due)

pub append_once-requires-clause-may : goal.append_once-requires-clause-may
append_once-requires-clause-may g c =
    λ κs outlives. may_later c.args.seat.now.me.0 c.loop.seat.me.0 c.args.sample c.loop.left c.loop.invariant.4
    c.loop.invariant.3 c.requires.may

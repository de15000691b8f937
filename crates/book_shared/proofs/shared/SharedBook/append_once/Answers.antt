use Rattle.std.proofs.Common.{◌∙◌, ap, subst, inl, inr, arith}
use Rattle.book_shared.specs.Rounds.{HasTried, IsTried}
use Rattle.book_shared.specs.Place.{MayAppend}
use Rattle.book_shared.specs.Turns.{OnlyDue}
use Rattle.book_shared.specs.declared.answer.Try.TheVariants.{NeedsFlush}
use Rattle.book_shared.specs.declared.view.View.{View}
use Rattle.book_shared.proofs.Given.{taken_now}
use Rattle.book_shared.proofs.Lists.{one_source}
use Rattle.book_shared.proofs.Following.{Follows, tried_later}
use Rattle.book_shared.proofs.Handing.{full_once, may_later, only_on, only_same, round_blocked, round_full, tried_once}
use Rattle.book_shared.proofs.shared.SharedBook.append_once.Given as given
use Rattle.book_shared.proofs.shared.SharedBook.append_once.Goals as goal
use Rattle.book_shared.proofs.shared.SharedBook.append_once.Goals.{In-NeedsFlush}

pub try_turn-requires-clause-taken : goal.try_turn-requires-clause-taken
try_turn-requires-clause-taken g c = (
  c.args.seat.now.me.0,
  taken_now c.args.seat.now.me c.seize-word.new.seat.me c.requires.seat.no_turn c.requires.seat.no_device c.seize-word.ensures.took,
  c.requires.may,
)

-- the first turn met a full block
met : (g : given.Over) (c : In-NeedsFlush g) → IsTried g.row.V.Denot c.args.seat.now.me.0 c.try_turn.new.seat.me.0 c.args.sample
    (NeedsFlush c.in-NeedsFlush.held c.in-NeedsFlush.size c.in-NeedsFlush.limit c.in-NeedsFlush.sample)
met g c =
    let v = c.args.seat.now.me.0 in
    subst (λ what. IsTried g.row.V.Denot v c.try_turn.new.seat.me.0 c.args.sample what) c.in-NeedsFlush.is
    (c.try_turn.ensures.tried v
    (taken_now c.args.seat.now.me c.seize-word.new.seat.me c.requires.seat.no_turn c.requires.seat.no_device
    c.seize-word.ensures.took) c.requires.may.owns)

-- and the seat goes on from there with the same sample
on : (g : given.Over) (c : In-NeedsFlush g) → Follows c.args.seat.now.me.0 c.try_turn.new.seat.me.0
on g c =
    full_once c.args.seat.now.me.0 c.try_turn.new.seat.me.0 c.args.sample c.in-NeedsFlush.held c.in-NeedsFlush.size
    c.in-NeedsFlush.limit c.in-NeedsFlush.sample (met g c)

may : (g : given.Over) (c : In-NeedsFlush g) → MayAppend c.try_turn.new.seat.me.0 c.in-NeedsFlush.sample
may g c =
    may_later c.args.seat.now.me.0 c.try_turn.new.seat.me.0 c.args.sample c.in-NeedsFlush.sample (on g c)
    (met g c).tries.1 c.requires.may

pub returns-in-NeedsFlush-clause-tried : goal.returns-in-NeedsFlush-clause-tried
returns-in-NeedsFlush-clause-tried g c =
    let p = (goal.at.returns-in-NeedsFlush-clause-tried g c).In-NeedsFlush in
    let v = c.args.seat.now.me.0 in
    subst (λ s. HasTried g.D.Disk g.V.Shown v c.append_round.new.seat.me.0 s c.append_round.result) (met g p).tries.1
    (tried_later v c.try_turn.new.seat.me.0 c.append_round.new.seat.me.0 (on g p) g.D.Disk g.V.Shown
    c.in-NeedsFlush.sample c.append_round.result c.append_round.ensures.tried)

pub returns-in-Answered-clause-tried : goal.returns-in-Answered-clause-tried
returns-in-Answered-clause-tried g c =
    let v = c.args.seat.now.me.0 in
    tried_once g.D.Disk g.V.Shown v c.try_turn.new.seat.me.0 c.args.sample c.in-Answered.answer
    (subst (λ what. IsTried g.row.V.Denot v c.try_turn.new.seat.me.0 c.args.sample what) c.in-Answered.is
    (c.try_turn.ensures.tried v
    (taken_now c.args.seat.now.me c.seize-word.new.seat.me c.requires.seat.no_turn c.requires.seat.no_device
    c.seize-word.ensures.took) c.requires.may.owns))

pub returns-in-NeedsFlush-clause-turns : goal.returns-in-NeedsFlush-clause-turns
returns-in-NeedsFlush-clause-turns g c =
    omega (
      arith,
      c.append_round.ensures.turns,
      c.try_turn.ensures.counts.turns_are,
      ap (λ (y : View). y.turns)
          c.seize-word.ensures.took.2.rest,
    )

pub returns-in-Answered-clause-turns : goal.returns-in-Answered-clause-turns
returns-in-Answered-clause-turns g c =
    omega (arith, c.try_turn.ensures.counts.turns_are, ap (λ (y : View). y.turns) c.seize-word.ensures.took.2.rest)

pub returns-in-NeedsFlush-clause-one : goal.returns-in-NeedsFlush-clause-one
returns-in-NeedsFlush-clause-one g c =
    round_blocked g.D.Disk g.V.Shown c.args.seat.now.me.0 c.try_turn.new.seat.me.0 c.append_round.new.seat.me.0
    c.args.sample c.in-NeedsFlush.held c.in-NeedsFlush.size c.in-NeedsFlush.limit
    c.in-NeedsFlush.sample c.append_round.result (met g (goal.at.returns-in-NeedsFlush-clause-one g c).In-NeedsFlush)
    c.append_round.ensures.tried

pub returns-in-Answered-clause-one : goal.returns-in-Answered-clause-one
returns-in-Answered-clause-one g c =
    let rest = c.seize-word.ensures.took.2.rest in inl (
      c.try_turn.ensures.counts.turns_are ∙ ap (λ (y : View). y.turns) rest,
      c.try_turn.ensures.rounds ∙ ap
          (λ (y : View). y.rounds) rest,
    )

pub returns-in-NeedsFlush-clause-announces : goal.returns-in-NeedsFlush-clause-announces
returns-in-NeedsFlush-clause-announces g c =
    inr (round_full g.D.Disk g.V.Shown c.args.seat.now.me.0 c.try_turn.new.seat.me.0 c.append_round.new.seat.me.0
    c.args.sample c.in-NeedsFlush.held c.in-NeedsFlush.size c.in-NeedsFlush.limit
    c.in-NeedsFlush.sample c.append_round.result
    (met g (goal.at.returns-in-NeedsFlush-clause-announces g c).In-NeedsFlush) c.append_round.ensures.tried)

pub returns-in-Answered-clause-announces : goal.returns-in-Answered-clause-announces
returns-in-Answered-clause-announces g c =
    inl (c.try_turn.ensures.counts.due_is ∙ ap (λ (y : View). y.due) c.seize-word.ensures.took.2.rest)

pub returns-in-NeedsFlush-clause-due : goal.returns-in-NeedsFlush-clause-due
returns-in-NeedsFlush-clause-due g c =
    let v = c.args.seat.now.me.0 in
    let u = c.try_turn.new.seat.me.0 in
    only_on v u c.append_round.new.seat.me.0 c.args.sample
    (only_same v u c.args.sample
    (c.try_turn.ensures.counts.due_is ∙ ap (λ (y : View). y.due) c.seize-word.ensures.took.2.rest))
    (subst (OnlyDue u c.append_round.new.seat.me.0)
    (met g (goal.at.returns-in-NeedsFlush-clause-due g c).In-NeedsFlush).tries.1 c.append_round.ensures.due)

pub returns-in-Answered-clause-due : goal.returns-in-Answered-clause-due
returns-in-Answered-clause-due g c =
    only_same c.args.seat.now.me.0 c.try_turn.new.seat.me.0 c.args.sample
    (c.try_turn.ensures.counts.due_is ∙ ap (λ (y : View). y.due) c.seize-word.ensures.took.2.rest)

pub append_round-requires-clause-seat : goal.append_round-requires-clause-seat
append_round-requires-clause-seat g c = λ κs outlives. record {
  table_is = c.try_turn.ensures.seat.table_is ∙ c.seize-word.ensures.table ∙ c.requires.seat.table_is;
  no_turn = c.try_turn.ensures.seat.no_turn;
  no_device =
      (c.try_turn.ensures.tried c.args.seat.now.me.0
      (taken_now c.args.seat.now.me c.seize-word.new.seat.me c.requires.seat.no_turn c.requires.seat.no_device
      c.seize-word.ensures.took) c.requires.may.owns).rests.no_device;
}

pub append_round-requires-clause-may : goal.append_round-requires-clause-may
append_round-requires-clause-may g c = λ κs outlives. may g (goal.at.append_round-requires-clause-may g c).In-NeedsFlush

pub seize-word-requires : goal.seize-word-requires
seize-word-requires g c = record {
  may = record {
    table_is = c.requires.seat.table_is;
    some_source = one_source _ c.args.seat.now.me.0.mine _ c.requires.may.owns;
    tells = inl c.requires.seat.no_device;
  };
}

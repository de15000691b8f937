use Rattle.std.proofs.Common.{◌∙◌, ap, inl}
use Rattle.book_shared.specs.declared.view.View.{View}
use Rattle.book_shared.proofs.Lists.{one_source}
use Rattle.book_shared.proofs.Given.{taken_now}
use Rattle.book_shared.proofs.shared.SharedBook.try_at.Goals as goal

pub try_turn-requires-clause-taken : goal.try_turn-requires-clause-taken
try_turn-requires-clause-taken g c = (
  c.args.seat.now.me.0,
  taken_now c.args.seat.now.me c.try_take.new.seat.me c.requires.seat.no_turn c.requires.seat.no_device c.in-Ok.ensures.took.1,
  c.requires.may,
)

pub returns-in-Ok-clause-tries : goal.returns-in-Ok-clause-tries
returns-in-Ok-clause-tries g c =
    (c.try_turn.ensures.tried c.args.seat.now.me.0
    (taken_now c.args.seat.now.me c.try_take.new.seat.me c.requires.seat.no_turn c.requires.seat.no_device
    c.in-Ok.ensures.took.1) c.requires.may.owns).tries

pub returns-in-Ok-clause-rests : goal.returns-in-Ok-clause-rests
returns-in-Ok-clause-rests g c =
    (c.try_turn.ensures.tried c.args.seat.now.me.0
    (taken_now c.args.seat.now.me c.try_take.new.seat.me c.requires.seat.no_turn c.requires.seat.no_device
    c.in-Ok.ensures.took.1) c.requires.may.owns).rests

pub returns-in-Ok-clause-asked : goal.returns-in-Ok-clause-asked
returns-in-Ok-clause-asked g c =
    (c.try_turn.ensures.tried c.args.seat.now.me.0
    (taken_now c.args.seat.now.me c.try_take.new.seat.me c.requires.seat.no_turn c.requires.seat.no_device
    c.in-Ok.ensures.took.1) c.requires.may.owns).asked

pub returns-in-Ok-clause-front : goal.returns-in-Ok-clause-front
returns-in-Ok-clause-front g c =
    (c.try_turn.ensures.tried c.args.seat.now.me.0
    (taken_now c.args.seat.now.me c.try_take.new.seat.me c.requires.seat.no_turn c.requires.seat.no_device
    c.in-Ok.ensures.took.1) c.requires.may.owns).front

pub returns-in-Ok-clause-steps : goal.returns-in-Ok-clause-steps
returns-in-Ok-clause-steps g c had = c.try_turn.ensures.steps ∙ c.in-Ok.ensures.steps

pub returns-in-Err-clause-asked : goal.returns-in-Err-clause-asked
returns-in-Err-clause-asked g c = ap (λ (y : View). y.asked) c.in-Err.ensures.busy.1.waited.rest

pub returns-in-Ok-clause-turns : goal.returns-in-Ok-clause-turns
returns-in-Ok-clause-turns g c had = c.try_turn.ensures.counts.turns_are ∙ ap (λ (y : View). y.turns) c.in-Ok.ensures.took.1.2.rest

pub returns-in-Ok-clause-due : goal.returns-in-Ok-clause-due
returns-in-Ok-clause-due g c = c.try_turn.ensures.counts.due_is ∙ ap (λ (y : View). y.due) c.in-Ok.ensures.took.1.2.rest

pub returns-in-Err-clause-due : goal.returns-in-Err-clause-due
returns-in-Err-clause-due g c = ap (λ (y : View). y.due) c.in-Err.ensures.busy.1.waited.rest

pub returns-in-Ok-clause-rounds : goal.returns-in-Ok-clause-rounds
returns-in-Ok-clause-rounds g c = c.try_turn.ensures.rounds ∙ ap (λ (y : View). y.rounds) c.in-Ok.ensures.took.1.2.rest

pub returns-in-Err-clause-rounds : goal.returns-in-Err-clause-rounds
returns-in-Err-clause-rounds g c = ap (λ (y : View). y.rounds) c.in-Err.ensures.busy.1.waited.rest

pub try_take-requires : goal.try_take-requires
try_take-requires g c = record {
  may = record {
    table_is = c.requires.seat.table_is;
    some_source = one_source _ c.args.seat.now.me.0.mine _ c.requires.may.owns;
    tells = inl c.requires.seat.no_device;
  };
}

use Rattle.std.proofs.Common.{◌∙◌, ap, sym, subst, arith, rules}
use Rattle.book_owned.specs.FrontHalf.{IsAwaited, front_account}
use Rattle.book_owned.specs.Marks.{durable}
use Rattle.book_owned.proofs.Fronts.{front_marked}
use Rattle.book_owned.proofs.Lasts.{last_mark-append}
use Rattle.book_owned.proofs.Sharing.{sealed_then, shown_then}
use Rattle.book_owned.proofs.handing.finish.Goals as goal

pub show-answer-requires-clause-sealed : goal.show-answer-requires-clause-sealed
show-answer-requires-clause-sealed g c = λ κs within.
    let awaited = subst (IsAwaited (front_account g.V.Shown c.args.front.now)) c.in-Done.is c.requires.awaited in
    omega (arith, c.requires.front.sealed, c.requires.front.steady.low, awaited.1)

pub show-answer-requires-clause-within : goal.show-answer-requires-clause-within
show-answer-requires-clause-within g c = λ κs within.
    let awaited = subst (IsAwaited (front_account g.V.Shown c.args.front.now)) c.in-Done.is c.requires.awaited in
    omega (arith, c.requires.front.steady.within, awaited.1)

pub returns-in-Done-clause-front : goal.returns-in-Done-clause-front
returns-in-Done-clause-front g c =
    let old = c.args.front.now in
    let awaited = subst (IsAwaited (front_account g.V.Shown old)) c.in-Done.is c.requires.awaited in
    let marked = record old { marks = c.put.new.self } in
    let is = sym (ap durable c.put.ensures.items ∙ ap (λ m. m.through) (last_mark-append old.marks.items c.in-Done.mark)) in
    front_marked g.V.Shown old c.requires.front c.show-answer.new.front c.put.new.self c.in-Done.mark c.clear.new.self
    c.show-answer.ensures.rest c.show-answer.ensures.history awaited.0 awaited.1 c.put.ensures.items c.put.ensures.spare
    (shown_then g.V.Shown marked c.show-answer.new.front c.in-Done.mark.through c.show-answer.ensures.rest is c.show-answer.ensures.upto c.show-answer.ensures.shared c.show-answer.ensures.begins)
    c.show-answer.ensures.shared (sealed_then g.V.Shown marked c.show-answer.new.front c.in-Done.mark.through c.show-answer.ensures.rest is c.show-answer.ensures.upto)
    c.clear.ensures.bytes (c.clear.ensures.limit ∙ awaited.2)

pub returns-in-Done-clause-tells : goal.returns-in-Done-clause-tells
returns-in-Done-clause-tells g c =
    let last = last_mark-append c.args.front.now.marks.items c.in-Done.mark in
    search (rules, last)

pub returns-in-Nothing-clause-front : goal.returns-in-Nothing-clause-front
returns-in-Nothing-clause-front g c =
    let old = c.args.front.now in
    let is = ap (λ m. m.through) c.last_mark-through.ensures in
    let sealed = sealed_then g.V.Shown old c.show.new.front c.last_mark-through.result.through c.show.ensures.rest is c.show.ensures.upto in
    let shown = shown_then g.V.Shown old c.show.new.front c.last_mark-through.result.through c.show.ensures.rest is c.show.ensures.upto
    c.show.ensures.shared c.show.ensures.begins in
    search (rules, shown, sealed)

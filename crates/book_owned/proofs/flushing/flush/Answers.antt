use Rattle.std.proofs.Common.{◌≡◌, true, false, sym, subst}
use Rattle.book_owned.specs.FrontHalf.{HandTells, front_account}
use Rattle.book_owned.specs.declared.answer.Flush.TheVariants as flush
use Rattle.book_owned.specs.declared.handed.Handed.TheVariants as handed_over
use Rattle.book_owned.proofs.Flushes.{Flushed, flush_nothing, flush_stopped, flush_written, write_awaited, write_going, write_keeps, write_short}
use Rattle.book_owned.proofs.flushing.flush.Given as given
use Rattle.book_owned.proofs.flushing.flush.Goals as goal
use Rattle.book_owned.proofs.flushing.flush.Goals.{In-Given, In-Nothing, In-Stopped, After-finish, After-finish-in-Given}

-- it was stopped
stopped : (g : given.Over) (c : In-Stopped g)
    → Flushed g.D.Disk g.V.Shown (front_account g.V.Shown c.args.front.now) (front_account g.V.Shown c.hand_over.new.front) c.args.back.now c.args.back.now (flush.Stopped c.in-Stopped.mark)
stopped g c =
    let old = front_account g.V.Shown c.args.front.now in
    let new = front_account g.V.Shown c.hand_over.new.front in
    flush_stopped g.D.Disk g.V.Shown old c.args.back.now c.requires.halves new c.in-Stopped.mark (subst (HandTells old new) c.in-Stopped.is c.hand_over.ensures.tells)

pub returns-in-Stopped-clause-halves : goal.returns-in-Stopped-clause-halves
returns-in-Stopped-clause-halves g c = (stopped g c).halves

pub returns-in-Stopped-clause-steps : goal.returns-in-Stopped-clause-steps
returns-in-Stopped-clause-steps g c = (stopped g c).steps

pub returns-in-Stopped-clause-answer : goal.returns-in-Stopped-clause-answer
returns-in-Stopped-clause-answer g c = (stopped g c).answer

-- nothing was pending
nothing : (g : given.Over) (c : After-finish g)
    → Flushed g.D.Disk g.V.Shown (front_account g.V.Shown c.args.front.now) (front_account g.V.Shown c.finish.new.front) c.args.back.now c.args.back.now c.finish.result
nothing g c =
    let old = front_account g.V.Shown c.args.front.now in
    let lent = front_account g.V.Shown c.hand_over.new.front in
    flush_nothing g.D.Disk g.V.Shown old c.args.back.now c.requires.halves lent (front_account g.V.Shown c.finish.new.front) c.finish.result
    (subst (HandTells old lent) c.in-Nothing.is c.hand_over.ensures.tells) c.finish.ensures.tells

pub finish-requires-clause-awaited : goal.finish-requires-clause-awaited
finish-requires-clause-awaited g c = λ κs within.
    let old = front_account g.V.Shown c.args.front.now in
    let tells = subst (HandTells old (front_account g.V.Shown c.hand_over.new.front)) c.in-Nothing.is c.hand_over.ensures.tells in
    subst (λ f. (f.spare ≡ true) × (f.stopped ≡ false)) (sym tells.1) (c.requires.halves.spare, tells.0)

pub returns-in-Nothing-clause-halves : goal.returns-in-Nothing-clause-halves
returns-in-Nothing-clause-halves g c = (nothing g c).halves

pub returns-in-Nothing-clause-steps : goal.returns-in-Nothing-clause-steps
returns-in-Nothing-clause-steps g c = (nothing g c).steps

pub returns-in-Nothing-clause-answer : goal.returns-in-Nothing-clause-answer
returns-in-Nothing-clause-answer g c = (nothing g c).answer

-- a block was handed over
handed : (g : given.Over) (c : In-Given g)
    → HandTells (front_account g.V.Shown c.args.front.now) (front_account g.V.Shown c.hand_over.new.front) (handed_over.Given c.in-Given.through c.in-Given.block)
handed g c = subst (HandTells (front_account g.V.Shown c.args.front.now) (front_account g.V.Shown c.hand_over.new.front)) c.in-Given.is c.hand_over.ensures.tells

pub write-written-requires-clause-short : goal.write-written-requires-clause-short
write-written-requires-clause-short g c = write_short g.D.Disk g.V.Shown (front_account g.V.Shown c.args.front.now) c.args.back.now c.requires.halves
    (front_account g.V.Shown c.hand_over.new.front) c.in-Given.through c.in-Given.block (handed g (goal.at.write-written-requires-clause-short g c).In-Given)

pub write-written-requires-clause-going : goal.write-written-requires-clause-going
write-written-requires-clause-going g c = write_going g.D.Disk g.V.Shown (front_account g.V.Shown c.args.front.now) c.args.back.now c.requires.halves
    (front_account g.V.Shown c.hand_over.new.front) c.in-Given.through c.in-Given.block (handed g (goal.at.write-written-requires-clause-going g c).In-Given)

pub finish-requires-in-Given-clause-awaited : goal.finish-requires-in-Given-clause-awaited
finish-requires-in-Given-clause-awaited g c = λ κs within.
    write_awaited g.D.Disk g.V.Shown (front_account g.V.Shown c.args.front.now) c.args.back.now c.requires.halves
    (front_account g.V.Shown c.hand_over.new.front) c.in-Given.through c.in-Given.block (handed g (goal.at.finish-requires-in-Given-clause-awaited g c).In-Given)
    c.write-written.new.self c.write-written.result c.write-written.ensures.answer

written : (g : given.Over) (c : After-finish-in-Given g)
    → Flushed g.D.Disk g.V.Shown (front_account g.V.Shown c.args.front.now) (front_account g.V.Shown c.finish-in-Given.new.front) c.args.back.now c.write-written.new.self c.finish-in-Given.result
written g c =
    let old = front_account g.V.Shown c.args.front.now in
    let lent = front_account g.V.Shown c.hand_over.new.front in
    let tells = subst (HandTells old lent) c.in-Given.is c.hand_over.ensures.tells in
    flush_written g.D.Disk g.V.Shown old c.args.back.now c.requires.halves lent c.in-Given.through c.in-Given.block tells
    (front_account g.V.Shown c.finish-in-Given.new.front) c.write-written.new.self c.write-written.result c.finish-in-Given.result
    c.write-written.ensures.answer
    (write_keeps g.D.Disk g.V.Shown old c.args.back.now c.requires.halves lent c.in-Given.through c.in-Given.block tells c.write-written.new.self c.write-written.result c.write-written.ensures.keeps)
    c.write-written.ensures.terms c.finish-in-Given.ensures.tells

pub returns-in-Given-clause-halves : goal.returns-in-Given-clause-halves
returns-in-Given-clause-halves g c = (written g c).halves

pub returns-in-Given-clause-steps : goal.returns-in-Given-clause-steps
returns-in-Given-clause-steps g c = (written g c).steps

pub returns-in-Given-clause-answer : goal.returns-in-Given-clause-answer
returns-in-Given-clause-answer g c = (written g c).answer

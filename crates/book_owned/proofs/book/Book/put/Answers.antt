use Rattle.std.proofs.Common.{◌∙◌, [], refl, sym, ap, subst, append-nil}
use Rattle.mdf_disk.specs.State.{state_of}
use Rattle.book_owned.specs.Marks.{last_mark}
use Rattle.book_owned.specs.Account.{Steps}
use Rattle.book_owned.specs.Answers.{AppendAnswers, FitsBlock, accepted_by}
use Rattle.book_owned.specs.Events.{PutEvents}
use Rattle.book_owned.specs.Kept.{IsKept, IsShowing}
use Rattle.book_owned.specs.Split.{AreHalves, book_of_halves}
use Rattle.book_owned.proofs.Parting.{book_kept, front_fits, put_answers, put_events, put_halves, put_steps}
use Rattle.book_owned.proofs.book.Book.put.Given as given
use Rattle.book_owned.proofs.book.Book.put.Goals as goal
use Rattle.book_owned.proofs.book.Book.put.Goals.{After-put}

-- it is stopped
pub returns-then-stopped-clause-answer : goal.returns-then-stopped-clause-answer
returns-then-stopped-clause-answer g c = record {
  stopped = sym (ap (λ a. a.stopped) c.self.view_is) ∙ sym c.self.invariant.stop ∙ sym c.stopped.ensures.stopped ∙ c.if-stopped.true;
  same = refl;
  mark_is = c.last_mark.ensures ∙ ap (λ a. last_mark a.marks) c.self.view_is;
}

pub returns-then-stopped-clause-kept : goal.returns-then-stopped-clause-kept
returns-then-stopped-clause-kept g c = subst (λ a. IsKept a.terms (state_of g.D.Disk a.disk) a.history a.marks) c.self.view_is
    (book_kept g.D.Disk g.V.Shown c.self.inside.front c.self.inside.back c.self.invariant c.stopped.ensures.steady)

pub returns-then-stopped-clause-shown : goal.returns-then-stopped-clause-shown
returns-then-stopped-clause-shown g c = subst (λ a. IsShowing g.V.Shown a.view a.history a.marks) c.self.view_is c.stopped.ensures.steady.shown

pub returns-then-stopped-clause-steps : goal.returns-then-stopped-clause-steps
returns-then-stopped-clause-steps g c =
    let old = c.args.self.now in
    record { history = sym (append-nil old.history); marks = ([], append-nil old.marks); stopped = λ stopped. stopped; terms = refl }

pub returns-then-stopped-clause-events : goal.returns-then-stopped-clause-events
returns-then-stopped-clause-events g c = refl

-- it is not
pub put-requires-clause-room : goal.put-requires-clause-room
put-requires-clause-room g c = front_fits g.D.Disk g.V.Shown c.self.inside.front c.self.inside.back c.self.invariant c.args.sample c.stopped.ensures.steady
    (sym c.stopped.ensures.stopped ∙ c.if-stopped.false) (subst (λ a. FitsBlock a c.args.sample) (sym c.self.view_is) c.requires.room)

halves : (g : given.Over) (c : After-put g) → AreHalves g.D.Disk c.put.new.self c.self.inside.back
halves g c = put_halves g.D.Disk g.V.Shown c.self.inside.front c.self.inside.back c.self.invariant c.put.new.self c.args.sample c.put.result c.stopped.ensures.steady c.put.ensures.tells

pub returns-clause-steps : goal.returns-clause-steps
returns-clause-steps g c =
    let new = book_of_halves g.D.Disk c.put.new.self c.self.inside.back in
    subst (λ a. Steps a new (accepted_by c.put.result c.args.sample)) c.self.view_is
    (put_steps g.D.Disk g.V.Shown c.self.inside.front c.self.inside.back c.self.invariant c.put.new.self c.args.sample c.put.result c.put.ensures.tells)

pub returns-clause-answer : goal.returns-clause-answer
returns-clause-answer g c =
    let new = book_of_halves g.D.Disk c.put.new.self c.self.inside.back in
    subst (λ a. AppendAnswers g.D.Disk g.V.Shown a new c.args.sample c.put.result) c.self.view_is
    (put_answers g.D.Disk g.V.Shown c.self.inside.front c.self.inside.back c.self.invariant c.put.new.self c.args.sample c.put.result c.put.ensures.tells
    (subst (λ a. FitsBlock a c.args.sample) (sym c.self.view_is) c.requires.room))

pub returns-clause-events : goal.returns-clause-events
returns-clause-events g c =
    let new = book_of_halves g.D.Disk c.put.new.self c.self.inside.back in
    subst (λ a. PutEvents g.V.Shown.count a new c.args.sample c.put.result) c.self.view_is
    (put_events g.D.Disk g.V.Shown c.self.inside.front c.put.new.self c.self.inside.back c.args.sample c.put.result c.self.invariant (halves g c) c.put.ensures.events)

pub returns-clause-kept : goal.returns-clause-kept
returns-clause-kept g c = book_kept g.D.Disk g.V.Shown c.put.new.self c.self.inside.back (halves g c) c.put.ensures.steady

pub returns-clause-shown : goal.returns-clause-shown
returns-clause-shown g c = c.put.ensures.steady.shown

pub invariant_of-self : goal.invariant_of-self
invariant_of-self g c = halves g c

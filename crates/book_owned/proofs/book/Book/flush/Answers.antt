use Rattle.std.proofs.Common.{◌≤◌, ◌∙◌, [], ap, length, sym, subst, arith, append-nil}
use Rattle.book_owned.specs.Marks.{durable}
use Rattle.book_owned.specs.Account.{Steps}
use Rattle.book_owned.specs.Answers.{FlushAnswers}
use Rattle.book_owned.specs.FrontHalf.{front_account}
use Rattle.book_owned.specs.Split.{AreHalves, book_of, book_of_halves}
use Rattle.book_owned.proofs.Happening.{flush_happens}
use Rattle.book_owned.proofs.Parting.{book_kept}
use Rattle.book_owned.proofs.book.Book.flush.Goals as goal

pub flush-requires-clause-halves : goal.flush-requires-clause-halves
flush-requires-clause-halves g c = λ κs within. subst (λ i. AreHalves g.D.Disk i.front i.back) (sym c.self-inside.view_is) c.self.invariant

pub returns-clause-steps : goal.returns-clause-steps
returns-clause-steps g c =
    let new = book_of g.D.Disk g.V.Shown c.flush.new.front c.flush.new.back in
    subst (λ a. Steps a new []) (ap (λ i. book_of_halves g.D.Disk i.front i.back) c.self-inside.view_is ∙ c.self.view_is) c.flush.ensures.steps

pub returns-clause-answer : goal.returns-clause-answer
returns-clause-answer g c =
    let new = book_of g.D.Disk g.V.Shown c.flush.new.front c.flush.new.back in
    subst (λ a. FlushAnswers g.D.Disk g.V.Shown a new c.flush.result) (ap (λ i. book_of_halves g.D.Disk i.front i.back) c.self-inside.view_is ∙ c.self.view_is) c.flush.ensures.answer

pub returns-clause-events : goal.returns-clause-events
returns-clause-events g c =
    let old_is = ap (λ i. book_of_halves g.D.Disk i.front i.back) c.self-inside.view_is ∙ c.self.view_is in
    let steady = c.self-inside.invariant.steady in
    flush_happens g.D.Disk g.V.Shown c.args.self.now (book_of g.D.Disk g.V.Shown c.flush.new.front c.flush.new.back) c.flush.result
    ((returns-clause-steps g c).history ∙ append-nil c.args.self.now.history)
    (subst (λ a. durable a.marks ≤ length a.history) old_is (omega (arith, steady.low, steady.within)))
    (subst (λ a. g.V.Shown.count a.view ≤ durable a.marks) old_is steady.shown.most)
    (returns-clause-answer g c)

pub returns-clause-kept : goal.returns-clause-kept
returns-clause-kept g c =
    book_kept g.D.Disk g.V.Shown (front_account g.V.Shown c.flush.new.front) c.flush.new.back c.flush.ensures.halves c.flush.ensures.front.steady

pub returns-clause-shown : goal.returns-clause-shown
returns-clause-shown g c = c.flush.ensures.front.steady.shown

pub invariant_of-self : goal.invariant_of-self
invariant_of-self g c = c.flush.ensures.halves

pub invariant_of-self-inside : goal.invariant_of-self-inside
invariant_of-self-inside g c = c.flush.ensures.front

use Rattle.std.proofs.Common.{◌≤◌, ◌∙◌, ℕ, ap, length, subst, arith}
use Rattle.book_owned.specs.Account.{Account}
use Rattle.book_owned.specs.FrontHalf.{FrontAccount, IsSteady, front_account}
use Rattle.book_owned.specs.Marks.{durable}
use Rattle.book_owned.specs.Split.{IsBackOf, front_of_book}
use Rattle.book_owned.proofs.Parting.{book_back, front_resting, resting_front}
use Rattle.book_owned.proofs.book.Book.split.Goals as goal

pub invariant_of-front : goal.invariant_of-front
invariant_of-front g c = front_resting g.V.Shown c.front.inside.memory c.last_mark.result.through c.front.invariant
    (ap (λ f. f.spare) c.front.view_is ∙ c.self.invariant.spare) (ap (λ m. m.through) c.last_mark.ensures)

pub returns-clause-front : goal.returns-clause-front
returns-clause-front g c =
    ap {A = ℕ} (λ n. record (front_account g.V.Shown c.front.inside.memory) { from = n }) (ap (λ m. m.through) c.last_mark.ensures)
    ∙ ap {A = FrontAccount g.row.V.Denot} (λ f. record f { from = durable f.marks }) c.front.view_is
    ∙ resting_front g.D.Disk g.V.Shown c.self.inside.front c.self.inside.back c.self.invariant
    ∙ ap {A = Account g.row.D.Denot g.row.V.Denot} front_of_book c.self.view_is

pub returns-clause-back : goal.returns-clause-back
returns-clause-back g c = subst (λ a. IsBackOf g.D.Disk a c.self.inside.back) c.self.view_is
    (book_back g.D.Disk g.V.Shown c.self.inside.front c.self.inside.back c.self.invariant)

pub returns-clause-within : goal.returns-clause-within
returns-clause-within g c =
    let steady = subst (IsSteady g.V.Shown) c.front.view_is c.front.invariant.steady in
    subst (λ a. durable a.marks ≤ length a.history) c.self.view_is (omega (arith, steady.low, steady.within))

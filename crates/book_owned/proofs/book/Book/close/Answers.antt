use Rattle.std.proofs.Common.{◌≤◌, ◌∙◌, ap, subst, take, arith}
use Rattle.std.specs.Prelude.{IfSome}
use Rattle.mdf_disk.specs.State.{state_of}
use Rattle.mdf_layout.specs.Record.{history_cost}
use Rattle.book_owned.specs.FrontHalf.{IsSteady}
use Rattle.book_owned.specs.Kept.{FitsOne, HoldsDurable, IsKept, IsShowing}
use Rattle.book_owned.specs.Marks.{durable}
use Rattle.book_owned.proofs.Parting.{book_fits, book_kept}
use Rattle.book_owned.proofs.Resting.{rests_hold}
use Rattle.book_owned.proofs.book.Book.close.Given as given
use Rattle.book_owned.proofs.book.Book.close.Goals as goal
use Rattle.book_owned.proofs.book.Book.close.Goals.{After-into_disk}

steady : (g : given.Over) (c : After-into_disk g) → IsSteady g.V.Shown c.self.inside.front
steady g c = subst (IsSteady g.V.Shown) c.front.view_is c.front.invariant.steady

pub returns-clause-within : goal.returns-clause-within
returns-clause-within g c =
    let counted = c.front.invariant.counted in
    subst (λ a. history_cost a.terms.layouts a.history ≤ a.terms.session_limit) c.self.view_is
    (subst (λ f. history_cost f.terms.layouts f.history ≤ f.terms.session_limit) c.front.view_is (omega (arith, counted.held, counted.within)))

pub returns-clause-content : goal.returns-clause-content
returns-clause-content g c = λ going.
    let front = c.self.inside.front in
    let file = c.self.inside.back in
    let written = (c.self.invariant.holds (c.self.invariant.stop ∙ ap (λ a. a.stopped) c.self.view_is ∙ going)).written in
    subst (λ a. IfSome (g.D.Disk.content a.disk) (HoldsDurable a.terms a.history a.marks)) c.self.view_is
    (rests_hold front.terms.layouts (g.D.Disk.content file.disk) (g.D.Disk.story file.disk) file.first file.place front.terms.block_limit
    (take (durable front.marks) front.history) written)

pub returns-clause-kept : goal.returns-clause-kept
returns-clause-kept g c = subst (λ a. IsKept a.terms (state_of g.D.Disk a.disk) a.history a.marks) c.self.view_is
    (book_kept g.D.Disk g.V.Shown c.self.inside.front c.self.inside.back c.self.invariant (steady g c))

pub returns-clause-one_block : goal.returns-clause-one_block
returns-clause-one_block g c = λ going. subst (λ a. FitsOne a.terms a.history a.marks) c.self.view_is
    (book_fits g.D.Disk g.V.Shown c.self.inside.front c.self.inside.back c.self.invariant (steady g c) (ap (λ a. a.stopped) c.self.view_is ∙ going))

pub returns-clause-shown : goal.returns-clause-shown
returns-clause-shown g c = subst (λ a. IsShowing g.V.Shown a.view a.history a.marks) c.self.view_is (steady g c).shown

use Rattle.std.proofs.Common.{◌≡◌, ◌∙◌, ap, drop, false, subst}
use Rattle.mdf_layout.specs.Record.{history_size}
use Rattle.book_owned.specs.FrontHalf.{IsSteady}
use Rattle.book_owned.specs.Marks.{durable}
use Rattle.book_owned.proofs.book.Book.pending.Goals as goal

pub returns : goal.returns
returns g c =
    let front = c.self.inside.front in
    let steady = subst (λ i. IsSteady g.V.Shown i.front) c.self-inside.view_is c.self-inside.invariant.steady in
    let going = subst (λ i. i.front.stopped ≡ false) c.self-inside.view_is c.if-self.false in
    c.pending.ensures ∙ ap (λ n. history_size front.terms.layouts (drop n front.history)) (steady.settled c.self.invariant.spare going)
    ∙ ap (λ a. history_size a.terms.layouts (drop (durable a.marks) a.history)) c.self.view_is

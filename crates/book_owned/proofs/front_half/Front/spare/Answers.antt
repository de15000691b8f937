use Rattle.std.proofs.Common.{◌<◌, ◌∙◌, length, sym, subst, arith}
use Rattle.book_owned.specs.Marks.{durable}
use Rattle.book_owned.proofs.Fronts.{spare_lent}
use Rattle.book_owned.proofs.front_half.Front.spare.Goals as goal

pub returns-clause-lent : goal.returns-clause-lent
returns-clause-lent g c lent =
    let memory = c.self.inside.memory in
    let away = spare_lent memory memory.spare (sym c.is_some.ensures ∙ lent) c.self.invariant.has_spare in
    subst (λ a. durable a.marks < length a.history) c.self.view_is (omega (arith, away.1, c.self.invariant.steady.within))

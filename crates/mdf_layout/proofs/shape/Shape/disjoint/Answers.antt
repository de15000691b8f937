use Rattle.std.proofs.Common.{◌↔◌, ap, subst, ◌∙◌}
use Rattle.std.specs.Prelude.{IsTrue}
use Rattle.mdf_layout.specs.Written.{AreApart}
use Rattle.mdf_layout.proofs.shape.Shape.disjoint.Goals as goal

pub returns : goal.returns
returns c =
    let rows_are = c.as_slice.ensures ∙ ap (λ l. l.rows) c.self.view_is in
    subst (λ rows. IsTrue c.are_apart.result ↔ AreApart rows) rows_are c.are_apart.ensures

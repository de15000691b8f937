use Rattle.std.proofs.Common.{sym, ◌∙◌}
use Rattle.mdf_data.proofs.Steps.{steps_alone}
use Rattle.mdf_data.proofs.places.Places.step.Goals as goal

pub returns-then-len-eq0 : goal.returns-then-len-eq0
returns-then-len-eq0 c =
    let inside = c.self.inside in
    steps_alone inside.even inside.step inside.listed c.args.self.now c.self.view_is (sym c.len.ensures.len ∙ c.if-len-eq0.true)

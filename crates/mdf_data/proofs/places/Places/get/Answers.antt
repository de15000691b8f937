use Rattle.std.proofs.Common.{◌≡◌, ◌+◌, ◌*◌, ℕ, List, Some, sym, ◌∙◌, ap, arith}
use Rattle.std.specs.List.{slice_get}
use Rattle.mdf_data.proofs.Steps.{steps_at, steps_past}
use Rattle.mdf_data.proofs.places.Places.get.Goals as goal

pub returns-then-i-self : goal.returns-then-i-self
returns-then-i-self c =
    let inside = c.self.inside in
    let i = c.args.i in
    let same : i * inside.step ≡ 0 + i * inside.step = omega arith in
    ap Some same ∙ sym (steps_at inside.even inside.step 0 i inside.listed c.if-i-self.true) ∙ ap (λ (places : List ℕ). slice_get places i) c.self.view_is

pub returns : goal.returns
returns c =
    let inside = c.self.inside in
    let i = c.args.i in
    c.get.ensures ∙ sym (steps_past inside.even inside.step 0 i inside.listed c.if-i-self.false)
    ∙ ap (λ (places : List ℕ). slice_get places i) c.self.view_is

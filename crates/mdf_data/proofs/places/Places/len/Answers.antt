use Rattle.std.proofs.Common.{◌≡◌, ◌+◌, ℕ, length, sym, ◌∙◌, ap, arith}
use Rattle.std.proofs.lemmas.List.{length-append}
use Rattle.mdf_data.specs.Places.{steps}
use Rattle.mdf_data.proofs.Steps.{length-steps}
use Rattle.mdf_data.proofs.places.Places.len.Goals as goal

pub returns : goal.returns
returns c =
    let inside = c.self.inside in
    let long : length c.args.self.now ≡ inside.even + length inside.listed =
    ap length (sym c.self.view_is) ∙ length-append (steps inside.even inside.step 0) inside.listed
    ∙ ap (λ (n : ℕ). n + length inside.listed) (length-steps inside.even inside.step 0) in
    omega (arith, long, c.len.ensures.len)

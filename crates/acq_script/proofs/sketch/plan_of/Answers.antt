use Rattle.std.proofs.Common.{◌≡◌, ◌∙◌, sym, subst, ap, ◌∷◌, ◌++◌, [], All}
use Rattle.acq_script.specs.Plan.{HasPlace}
use Rattle.acq_script.specs.Sketch.{all_rows}
use Rattle.acq_script.proofs.Sketches.{rows_are, have_place}
use Rattle.acq_script.proofs.sketch.plan_of.Goals as goal

pub shapes_of-requires : goal.shapes_of-requires
shapes_of-requires c =
    let rows : c.as_slice.result.now ≡ all_rows c.args.sketch = c.as_slice.ensures ∙ c.in_ok-push.ensures.ok ∙ ap (λ row. c.args.sketch.rows ++ row ∷ []) c.group_row.ensures in
    subst (All HasPlace) (sym rows) (have_place (all_rows c.args.sketch) (rows_are c.args.sketch c.requires.sketch c.requires.some))

use Rattle.std.proofs.Common.{sym, subst}
use Rattle.acq_script.specs.Plan.{HasPlace}
use Rattle.acq_script.proofs.sketch.shapes_of.Goals as goal

pub shape_of_row-requires : goal.shape_of_row-requires
shape_of_row-requires c = subst HasPlace (sym c.row-item.is) (c.requires c.loop-row.row-index c.row-item.result c.loop-row-test.true)

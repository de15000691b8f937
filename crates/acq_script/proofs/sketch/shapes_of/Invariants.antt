use Rattle.std.proofs.Common.{◌≡◌, map, take}
use Rattle.acq_script.specs.Plan.{layout_of}
use Rattle.acq_script.proofs.sketch.shapes_of.Given as goal

abbrev pub invariant-loop-row : goal.invariant-loop-row
invariant-loop-row l = l.shapes ≡ map layout_of (take l.row-index l.rows)

use Rattle.std.proofs.Common.{map, length, ◌∙◌, ap, arith}
use Rattle.std.proofs.lemmas.List.{take_all}
use Rattle.mdf_log.specs.Setup.{widths_of}
use Rattle.mdf_log.proofs.floats.floats_of.Goals as goal

pub returns : goal.returns
returns c =
    c.loop-row.invariant ∙ ap (map widths_of) (take_all c.loop-row.row-index c.args.plan.now.rows (omega (arith, c.loop-row-test.false, ap length c.as_slice-row-items.ensures)))

use Rattle.std.proofs.Common.{sym, subst, arith}
use Rattle.std.specs.List.{AllByRecursion}
use Rattle.mdf_model.specs.Measurement.{HasSamples}
use Rattle.mdf_model.proofs.Samples.{measures_samples}
use Rattle.mdf_model.proofs.measurement.measured_of.Goals as goal

pub invariant_of-result : goal.invariant_of-result
invariant_of-result c = (
  omega (arith, c.len.ensures, c.if-len.false),
  subst (AllByRecursion HasSamples) (sym c.in_ok-groups.ensures)
      (measures_samples c.args.all.tree.rows c.args.all.contents c.requires.samples),
)

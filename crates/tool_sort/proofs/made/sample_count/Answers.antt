use Rattle.std.proofs.Common.{◌+◌, arith, refl}
use Rattle.tool_sort.proofs.Parts.{samples_more, samples_done}
use Rattle.tool_sort.proofs.made.sample_count.Goals as goal

pub loop-i-preserved : goal.loop-i-preserved
loop-i-preserved c =
    samples_more c.args.measurement.now.groups c.loop-i.i c.loop-i.count c.samples.result c.in-Some.sum
    (omega (arith, c.loop-i-test.true, c.groups-groups.ensures)) c.samples.ensures (omega (arith, c.in-Some.ensures)) c.loop-i.invariant

pub returns-clause-count : goal.returns-clause-count
returns-clause-count c =
    samples_done c.args.measurement.now.groups c.loop-i.i c.loop-i.count (omega (arith, c.loop-i-test.false, c.groups-groups.ensures)) c.loop-i.invariant

pub returns-in_default-clause-past : goal.returns-in_default-clause-past
returns-in_default-clause-past c =
    omega (
      arith,
      c.in_default.ensures,
      samples_more c.args.measurement.now.groups c.loop-i.i c.loop-i.count c.samples.result (c.loop-i.count + c.samples.result)
          (omega (arith, c.loop-i-test.true, c.groups-groups.ensures)) c.samples.ensures refl c.loop-i.invariant,
    )

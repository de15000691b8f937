use Rattle.std.proofs.Common.{arith}
use Rattle.mdf_log.proofs.tally.Tally.add.Goals as goal

-- one part more
pub invariant_of-self : goal.invariant_of-self
invariant_of-self c =
    let old = c.args.self.now in
    record {
      few = omega (arith, old.few, c.from.ensures, c.ranges.samples.fits);
      fewer = omega (arith, old.fewer, c.from-2.ensures, c.ranges.durable.fits);
      each = λ source d less. omega (arith, old.each source d (omega (arith, less, c.accept.ensures.count)), c.accept.ensures.few source d);
    }

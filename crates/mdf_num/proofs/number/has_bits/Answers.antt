use Rattle.std.proofs.Common.{◌≤◌, ◌^◌, lit<, arith}
use Rattle.std.proofs.Math.Nat.{pow-le-pow_right}
use Rattle.std.proofs.lemmas.Bool.{le-leb}
use Rattle.mdf_num.proofs.number.has_bits.Goals as goal

pub returns-then-bits-ge64 : goal.returns-then-bits-ge64
returns-then-bits-ge64 c = (
  λ _.
      let less : 2 ^ 64 ≤ 2 ^ c.args.bits = pow-le-pow_right (lit< tt) c.if-bits-ge64.true in
      omega (arith, c.ranges.number.fits),
  λ _. le-leb 64 c.args.bits c.if-bits-ge64.true,
)

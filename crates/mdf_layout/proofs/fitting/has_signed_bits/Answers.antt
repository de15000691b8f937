use Rattle.std.proofs.Common.{◌≡◌, ◌-◌, ◌^◌, ap, arith}
use Rattle.std.proofs.lemmas.Int.{ints}
use Rattle.std.proofs.lemmas.Nat.{pow_pos}
use Rattle.mdf_layout.proofs.fitting.has_signed_bits.Goals as goal

pub returns-then-number-lt0 : goal.returns-then-number-lt0
returns-then-number-lt0 c =
    let size : 2 ^ c.bits_below_sign-below.result ≡ 2 ^ (c.args.bits - 1) = ap (λ n. 2 ^ n) c.bits_below_sign-below.ensures in
    let some = pow_pos (c.args.bits - 1) in (
      λ is. let held = c.has_bits.ensures.0 is in record { low = omega (arith, ints, held, size, c.if-number-lt0.true); high = omega (arith, ints, some, c.if-number-lt0.true) },
      λ fits. c.has_bits.ensures.1 (omega (arith, ints, fits.low, size, c.if-number-lt0.true)),
    )

pub returns-else-number-lt0 : goal.returns-else-number-lt0
returns-else-number-lt0 c =
    let size : 2 ^ c.bits_below_sign-below.result ≡ 2 ^ (c.args.bits - 1) = ap (λ n. 2 ^ n) c.bits_below_sign-below.ensures in (
      λ is. let held = c.has_bits-else-number-lt0.ensures.0 is in record { low = omega (arith, ints, c.if-number-lt0.false); high = omega (arith, ints, held, size, c.if-number-lt0.false) },
      λ fits. c.has_bits-else-number-lt0.ensures.1 (omega (arith, ints, fits.high, size, c.if-number-lt0.false)),
    )

use Rattle.std.proofs.Common.{◌-◌, ◌^◌, arith}
use Rattle.std.proofs.lemmas.Bool.{le-ltb}
use Rattle.std.proofs.lemmas.Int.{ints}
use Rattle.mdf_bits.proofs.Powers.{has_halves, not_below}
use Rattle.mdf_bits.proofs.number.signed.Goals as goal

pub overflow_sub-result : goal.overflow_sub-result
overflow_sub-result c =
    let ones = (has_halves c.args.bits c.requires.not_empty c.requires.in_word).ones in
    rw ones (omega arith)

pub overflow_cast-result-2 : goal.overflow_cast-result-2
overflow_cast-result-2 c =
    let halves = has_halves c.args.bits c.requires.not_empty c.requires.in_word in
    let high = not_below c.args.value (c.args.bits - 1) c.if-value-bits-eq0.false in
    rw halves.ones (record { sfits = omega arith })

pub returns : goal.returns
returns c =
    let halves = has_halves c.args.bits c.requires.not_empty c.requires.in_word in
    let high = not_below c.args.value (c.args.bits - 1) c.if-value-bits-eq0.false in
    rw (halves.ones, le-ltb c.args.value (2 ^ (c.args.bits - 1)) high) (omega (arith, ints))

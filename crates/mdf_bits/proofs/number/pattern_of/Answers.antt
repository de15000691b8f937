use Rattle.std.proofs.Common.{◌≡◌, ◌≤◌, ◌-◌, ◌^◌, ℕ, arith}
use Rattle.std.specs.Prelude.{ℤ, pos, neg_ℤ}
use Rattle.std.proofs.lemmas.Bool.{le-ltb}
use Rattle.std.proofs.lemmas.Int.{ints}
use Rattle.mdf_format.specs.Field.{signed_number}
use Rattle.mdf_bits.proofs.Powers.{has_halves}
use Rattle.mdf_bits.proofs.number.pattern_of.Goals as goal

-- a number whose highest bit is 1 is negative
negative : (bits n : ℕ) (number : ℤ) → 2 ^ (bits - 1) ≤ n → neg_ℤ (pos (2 ^ bits - n)) ≡ number → signed_number bits n ≡ number
negative bits n number high is = rw (le-ltb n (2 ^ (bits - 1)) high) is

pub overflow_sub-result-2 : goal.overflow_sub-result-2
overflow_sub-result-2 c =
    let halves = has_halves c.args.bits c.requires.not_empty c.requires.in_word in
    rw halves.ones (omega (arith, ints, c.requires.held.low, c.if-number-ge0.false, halves.twice))

pub returns-clause-back : goal.returns-clause-back
returns-clause-back c =
    let halves = has_halves c.args.bits c.requires.not_empty c.requires.in_word in
    rw halves.ones (negative c.args.bits _ c.args.number
    (omega (arith, ints, c.requires.held.low, c.if-number-ge0.false, halves.twice))
    (omega (arith, ints, c.requires.held.low, c.if-number-ge0.false, halves.twice)))

pub returns-clause-fits : goal.returns-clause-fits
returns-clause-fits c =
    let halves = has_halves c.args.bits c.requires.not_empty c.requires.in_word in
    rw halves.ones (omega (arith, ints, c.requires.held.low, c.if-number-ge0.false, halves.twice))

use Rattle.std.proofs.Common.{◌+◌, ◌*◌, ◌^◌, ◌≤◌, ◌∙◌, length, arith}
use Rattle.std.proofs.Math.Nat.{pow-le-pow_right}
use Rattle.mdf_bits.proofs.word.put_among.Goals as goal

pub overflow_cast-word : goal.overflow_cast-word
overflow_cast-word c =
    let count = length c.args.bytes.now in
    let at_most : 8 * count ≤ 64 = omega (arith, c.if-bytes-le8.true) in
    let wider : 2 ^ (8 * count) ≤ 2 ^ 64 = pow-le-pow_right {n = 2} (omega arith) {i = 8 * count} {j = 64} at_most in
    omega (arith, c.word_of-word.ensures.fits, wider)

pub returns-then-bytes-le8-clause-inside : goal.returns-then-bytes-le8-clause-inside
returns-then-bytes-le8-clause-inside c = λ k within. c.put_word.ensures.bits (c.args.bit + k) ∙ c.with_bits_in_eight-short.ensures.inside k within

pub returns-then-bytes-le8-clause-below : goal.returns-then-bytes-le8-clause-below
returns-then-bytes-le8-clause-below c = λ k low. c.put_word.ensures.bits k ∙ c.with_bits_in_eight-short.ensures.below k low ∙ c.word_of-word.ensures.bits k

pub returns-then-bytes-le8-clause-above : goal.returns-then-bytes-le8-clause-above
returns-then-bytes-le8-clause-above c = λ k high. c.put_word.ensures.bits k ∙ c.with_bits_in_eight-short.ensures.above k high ∙ c.word_of-word.ensures.bits k

pub returns-clause-inside : goal.returns-clause-inside
returns-clause-inside c = λ k within. c.put_word-2.ensures.bits (c.args.bit + k) ∙ c.with_bits-long.ensures.inside k within

pub returns-clause-below : goal.returns-clause-below
returns-clause-below c = λ k low. c.put_word-2.ensures.bits k ∙ c.with_bits-long.ensures.below k low ∙ c.word_of-word.ensures.bits k

pub returns-clause-above : goal.returns-clause-above
returns-clause-above c = λ k high. c.put_word-2.ensures.bits k ∙ c.with_bits-long.ensures.above k high ∙ c.word_of-word.ensures.bits k

use Rattle.std.proofs.Common.{◌≡◌, ◌≤◌, ◌+◌, ◌*◌, ◌∙◌, ℕ, length, ap, sym, arith}
use Rattle.std.proofs.lemmas.Nat.Bits.{bit_at_above}
use Rattle.std.specs.Int.{bit_at}
use Rattle.mdf_format.specs.Field.{lowest_first}
use Rattle.mdf_bits.proofs.Orders.{bit_of_past, length-lowest_first}
use Rattle.mdf_bits.proofs.word.put_bits.Goals as goal

pub returns-then-bits-bytes-clause-inside : goal.returns-then-bits-bytes-clause-inside
returns-then-bits-bytes-clause-inside c = λ k within.
    let same : c.args.bit + k ≡ k = omega (arith, c.requires.within, c.if-bits-bytes.true) in
    c.put_word.ensures.bits (c.args.bit + k) ∙ ap (λ (n : ℕ). bit_at c.args.value n) same

pub returns-then-bits-bytes-clause-below : goal.returns-then-bits-bytes-clause-below
returns-then-bits-bytes-clause-below c = λ k low. absurd (omega (arith, c.requires.within, c.if-bits-bytes.true))

pub returns-then-bits-bytes-clause-above : goal.returns-then-bits-bytes-clause-above
returns-then-bits-bytes-clause-above c = λ k above.
    let ordered = lowest_first c.args.big c.args.bytes.now in
    let long = length-lowest_first c.args.big c.args.bytes.now in
    let whole = c.if-bits-bytes.true in
    let past : 8 * length ordered ≤ k = omega arith in
    c.put_word.ensures.bits k ∙ bit_at_above c.args.value c.args.bits k c.requires.fits (omega arith) ∙ sym (bit_of_past ordered k past)

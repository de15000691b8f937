use Rattle.std.proofs.Common.{◌≡◌, ◌-◌, suc, drop, sym, ◌∙◌, ap, arith}
use Rattle.mdf_format.specs.Field.{lowest_first}
use Rattle.mdf_format.specs.Number.{le_number}
use Rattle.mdf_bits.proofs.Orders.{are_bytes, bit_at-le_number, le_number-lower, le_number-lt, length-lowest_first, lowest_first_bytes}
use Rattle.mdf_bits.proofs.word.word_of_each_byte.Goals as goal

pub loop-i-preserved : goal.loop-i-preserved
loop-i-preserved c =
    let big = c.args.big in
    let bytes = c.args.bytes.now in
    let below : c.loop-i.i ≡ suc (c.loop-i.i - 1) = omega arith in
    let so_far = c.loop-i.invariant ∙ ap (λ n. le_number (drop n (lowest_first big bytes))) below in
    rw c.byte_place.ensures (le_number-lower big bytes (c.loop-i.i - 1) c.loop-i.word (are_bytes bytes c.type_inv.bytes) c.requires (omega arith) so_far)

pub returns-clause-bits : goal.returns-clause-bits
returns-clause-bits c = λ k.
    let ordered = lowest_first_bytes c.args.big c.args.bytes.now (are_bytes c.args.bytes.now c.type_inv.bytes) in
    let done : c.loop-i.i ≡ 0 = omega arith in
    rw (c.loop-i.invariant, done) (bit_at-le_number (lowest_first c.args.big c.args.bytes.now) k ordered)

pub returns-clause-fits : goal.returns-clause-fits
returns-clause-fits c =
    let ordered = lowest_first_bytes c.args.big c.args.bytes.now (are_bytes c.args.bytes.now c.type_inv.bytes) in
    let done : c.loop-i.i ≡ 0 = omega arith in
    let long = length-lowest_first c.args.big c.args.bytes.now in
    rw (c.loop-i.invariant, done, sym long) (le_number-lt (lowest_first c.args.big c.args.bytes.now) ordered)

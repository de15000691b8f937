use Rattle.std.proofs.Common.{◌≡◌, ◌+◌, ◌-◌, ◌∙◌, arith}
use Rattle.mdf_format.specs.Field.{covered_size}
use Rattle.mdf_bits.specs.Field.{spot_of}
use Rattle.mdf_bits.proofs.Spots.{number_from_bits}
use Rattle.mdf_bits.proofs.number.get.Goals as goal

pub returns-clause-number : goal.returns-clause-number
returns-clause-number c =
    let field = c.args.field in
    let count : field.byte + c.size.result - field.byte ≡ covered_size (spot_of field) = omega (arith, c.size.ensures.size) in
    let bits = rw count at c.word_of-word.ensures.bits in
    number_from_bits (spot_of field) c.args.bytes.now c.bits_from.result c.bits_from.ensures.fits
    (λ i within. c.bits_from.ensures.bits i within ∙ bits (field.bit + i))

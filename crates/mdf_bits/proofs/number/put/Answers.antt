use Rattle.std.proofs.Common.{inl, inr}
use Rattle.mdf_bits.specs.Field.{spot_of}
use Rattle.mdf_bits.proofs.Spots.{number_written, other_bit}
use Rattle.mdf_bits.proofs.number.put.Goals as goal

pub returns-clause-number : goal.returns-clause-number
returns-clause-number c =
    number_written (spot_of c.args.field) c.args.bytes.now c.put_bits.new.bytes c.size.result c.requires.within c.size.ensures.size c.put_bits.ensures.len c.args.value c.requires.fits
    c.put_bits.ensures.inside

pub returns-clause-other_bits : goal.returns-clause-other_bits
returns-clause-other_bits c =
    other_bit (spot_of c.args.field) c.args.bytes.now c.put_bits.new.bytes c.size.result c.requires.within c.size.ensures.size c.put_bits.ensures.len
    (λ k apart. elim apart [ inl low ↦ c.put_bits.ensures.below k low | inr high ↦ c.put_bits.ensures.above k high ])

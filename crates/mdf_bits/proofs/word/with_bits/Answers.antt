use Rattle.std.proofs.Common.{arith}
use Rattle.std.specs.Int.{w128}
use Rattle.mdf_bits.proofs.Masks.{replaced_inside, replaced_below, replaced_above, replaced-lt}
use Rattle.mdf_bits.proofs.word.with_bits.Goals as goal

pub returns-clause-inside : goal.returns-clause-inside
returns-clause-inside c =
    replaced_inside w128 c.args.word c.args.bit c.args.bits c.args.value (omega (arith, c.requires.in_byte, c.requires.in_word)) (omega (arith, c.requires.in_word)) c.ranges.word.fits c.requires.fits

pub returns-clause-below : goal.returns-clause-below
returns-clause-below c =
    replaced_below w128 c.args.word c.args.bit c.args.bits c.args.value (omega (arith, c.requires.in_byte, c.requires.in_word)) (omega (arith, c.requires.in_word)) c.ranges.word.fits c.requires.fits

pub returns-clause-above : goal.returns-clause-above
returns-clause-above c =
    replaced_above w128 c.args.word c.args.bit c.args.bits c.args.value (omega (arith, c.requires.in_byte, c.requires.in_word)) (omega (arith, c.requires.in_word)) c.ranges.word.fits c.requires.fits

pub returns-clause-fits : goal.returns-clause-fits
returns-clause-fits c =
    replaced-lt w128 c.args.word c.args.bit c.args.bits c.args.value (omega (arith, c.requires.in_byte, c.requires.in_word)) (omega (arith, c.requires.in_word)) c.ranges.word.fits c.requires.fits

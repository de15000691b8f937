use Rattle.std.specs.Int.{w64}
use Rattle.mdf_bits.proofs.Masks.{replaced_inside, replaced_below, replaced_above, replaced-lt}
use Rattle.mdf_bits.proofs.word.with_bits_in_eight.Goals as goal

pub returns-clause-inside : goal.returns-clause-inside
returns-clause-inside c =
    replaced_inside w64 c.args.word c.args.bit c.args.bits c.args.value c.requires.within c.requires.few c.ranges.word.fits c.requires.fits

pub returns-clause-below : goal.returns-clause-below
returns-clause-below c =
    replaced_below w64 c.args.word c.args.bit c.args.bits c.args.value c.requires.within c.requires.few c.ranges.word.fits c.requires.fits

pub returns-clause-above : goal.returns-clause-above
returns-clause-above c =
    replaced_above w64 c.args.word c.args.bit c.args.bits c.args.value c.requires.within c.requires.few c.ranges.word.fits c.requires.fits

pub returns-clause-fits : goal.returns-clause-fits
returns-clause-fits c =
    replaced-lt w64 c.args.word c.args.bit c.args.bits c.args.value c.requires.within c.requires.few c.ranges.word.fits c.requires.fits

use Rattle.mdf_bits.proofs.Masks.{bit_at-run}
use Rattle.mdf_bits.proofs.word.bits_from.Goals as goal

pub returns-clause-bits : goal.returns-clause-bits
returns-clause-bits c = λ k within. bit_at-run c.args.word c.args.bit c.args.bits k c.requires.in_word within

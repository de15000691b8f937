use Rattle.std.proofs.Common.{◌≡◌, drop}
use Rattle.mdf_format.specs.Field.{lowest_first}
use Rattle.mdf_format.specs.Number.{le_number}
use Rattle.mdf_bits.proofs.word.word_of_each_byte.Given as goal

abbrev pub invariant-loop-i : goal.invariant-loop-i
invariant-loop-i l = l.word ≡ le_number (drop l.i (lowest_first l.big l.bytes))

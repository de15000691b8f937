use Rattle.std.proofs.Common.{◌≡◌, ◌<◌, ◌*◌, ◌/◌, ◌^◌, ℕ, get_or}
use Rattle.mdf_format.specs.Field.{lowest_first}
use Rattle.mdf_bits.proofs.Orders.{byte_of}
use Rattle.mdf_bits.proofs.word.put_each_byte.Given as goal

abbrev pub invariant-loop-i : goal.invariant-loop-i
invariant-loop-i l = record {
  rest : l.rest ≡ l.word / 2 ^ (8 * l.i);
  written : (j : ℕ) → j < l.i → get_or (lowest_first l.big l.bytes) j 0 ≡ byte_of l.word j;
}

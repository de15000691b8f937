use Rattle.std.proofs.Common.{◌≡◌, ◌+◌, ◌*◌, ◌%◌, length, ◌∙◌, ap, arith}
use Rattle.std.proofs.lemmas.Nat.{and_mask, shr-shr}
use Rattle.mdf_format.specs.Field.{lowest_first}
use Rattle.mdf_bits.proofs.Orders.{bit_of-bytes, bytes_more, length-lowest_first}
use Rattle.mdf_bits.proofs.word.put_each_byte.Goals as goal

pub loop-i-preserved : goal.loop-i-preserved
loop-i-preserved c =
    let word = c.args.word in
    let i = c.loop-i.i in
    let next : 8 * (i + 1) ≡ 8 * i + 8 = omega arith in record {
      rest = rw (c.loop-i.invariant.rest, next) (shr-shr word (8 * i) 8);
      written = rw c.byte_place-place.ensures (bytes_more c.args.big c.loop-i.bytes word i _ (omega arith) c.loop-i.invariant.written
          (and_mask c.loop-i.rest 8 ∙ ap (λ n. n % 256) c.loop-i.invariant.rest));
    }

pub returns-clause-bits : goal.returns-clause-bits
returns-clause-bits c =
    let ordered = lowest_first c.args.big c.loop-i.bytes in
    let long = length-lowest_first c.args.big c.loop-i.bytes in
    let same : length ordered ≡ length c.args.bytes.now = omega arith in
    bit_of-bytes ordered c.args.word (rw same c.requires) (λ j within. c.loop-i.invariant.written j (omega arith))

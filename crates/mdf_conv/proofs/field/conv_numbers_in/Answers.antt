use Rattle.std.proofs.Common.{◌∙◌, ap, Ok, rules}
use Rattle.mdf_conv.specs.Left.{link_count}
use Rattle.mdf_conv.proofs.Fronts.{same_numbers, counts_past}
use Rattle.mdf_block.proofs.Readers.{says_of}
use Rattle.mdf_conv.proofs.field.conv_numbers_in.Goals as goal

pub returns-then-count-block : goal.returns-then-count-block
returns-then-count-block g c = record {
  reads = says_of (search rules) (λ f told holds.
      let here = c.in_ok-inverse.ensures.reads.same ∙ told in
      absurd (counts_past f c.args.block.now c.in_ok-front.front (c.in_ok-front.ensures.reads.seen f here) holds c.requires.filled.filled c.if-count-block.true));
}

pub returns : goal.returns
returns g c = record {
  reads = says_of (search rules) (λ f told holds.
      let here = c.in_ok-inverse.ensures.reads.same ∙ told in
      let numbers = c.in_ok-numbers.ensures.reads.seen f (c.in_ok-front.ensures.reads.same ∙ here) in
      ap Ok (same_numbers f c.args.block.now c.in_ok-front.front (c.in_ok-front.ensures.reads.seen f here) holds _ _ numbers
      (c.link_count.ensures ∙ ap link_count (c.in_ok-inverse.ensures.reads.seen f told))));
}

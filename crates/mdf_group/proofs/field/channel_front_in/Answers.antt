use Rattle.std.proofs.Common.{◌∙◌, ap, lit≤, rules}
use Rattle.mdf_group.specs.Channel.{channel_front}
use Rattle.mdf_group.proofs.Rows.{channel_front-same}
use Rattle.mdf_block.proofs.Readers.{looks_of}
use Rattle.mdf_group.proofs.field.channel_front_in.Goals as goal

pub returns : goal.returns
returns g c = record {
  reads = looks_of (search rules) (λ f told.
      let block = c.args.block.now in
      rw (c.u32_field.ensures, c.u32_field-2.ensures, c.u32_field-3.ensures, c.u32_field-4.ensures, c.ranges_of.ensures) (
      ap channel_front (c.in_ok-body_in.ensures.reads.seen f told)
      ∙ channel_front-same f block.body_at 72 block.body_len c.requires.filled.filled (lit≤ tt)
      ));
}

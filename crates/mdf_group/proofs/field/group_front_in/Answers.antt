use Rattle.std.proofs.Common.{◌∙◌, ap, lit≤, rules}
use Rattle.mdf_group.specs.Group.{group_front}
use Rattle.mdf_group.proofs.Rows.{group_front-same}
use Rattle.mdf_block.proofs.Readers.{looks_of}
use Rattle.mdf_group.proofs.field.group_front_in.Goals as goal

pub returns : goal.returns
returns g c = record {
  reads = looks_of (search rules) (λ f told.
      let block = c.args.block.now in
      rw (c.u64_field.ensures, c.u64_field-2.ensures, c.u16_field.ensures, c.u16_field-2.ensures, c.u32_field.ensures, c.u32_field-2.ensures) (
      ap group_front (c.in_ok-body_in.ensures.reads.seen f told)
      ∙ group_front-same f block.body_at 32 block.body_len c.requires.filled.filled (lit≤ tt)
      ));
}

use Rattle.std.proofs.Common.{rules}
use Rattle.mdf_conv.proofs.Fronts.{same_front}
use Rattle.mdf_block.proofs.Readers.{looks_of}
use Rattle.mdf_conv.proofs.field.front_in.Goals as goal

pub returns : goal.returns
returns g c = record {
  reads = looks_of (search rules) (λ f told.
      same_front f c.body_in.new.buf c.args.block.now c.requires.filled.filled (c.in_ok-body_in.ensures.reads.seen f told) _ _ _ _
      c.u16_field.ensures c.u16_field-2.ensures c.u64_field.ensures c.u64_field-2.ensures);
}

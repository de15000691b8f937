use Rattle.std.proofs.Common.{◌∙◌, ap, lit≤, rules}
use Rattle.mdf_attach.specs.Listed.{fields_of}
use Rattle.mdf_attach.proofs.Fronts.{fields_of-front}
use Rattle.mdf_block.proofs.Readers.{looks_of}
use Rattle.mdf_attach.proofs.field.fields_in.Goals as goal

pub returns : goal.returns
returns g c = record {
  reads = looks_of (search rules) (λ f told.
      let block = c.args.block.now in
      rw (c.u16_field.ensures, c.u16_field-2.ensures, c.md5_of.ensures, c.u64_field.ensures, c.u64_field-2.ensures) (
      ap fields_of (c.in_ok-body_in.ensures.reads.seen f told)
      ∙ fields_of-front f block.body_at 40 block.body_len c.requires.filled.filled (lit≤ tt)
      ));
}

use Rattle.std.proofs.Common.{◌+◌, ℕ, ◌∙◌, ap, arith, rules}
use Rattle.mdf_format.specs.Number.{bytes_at}
use Rattle.mdf_format.specs.Field.{field_number}
use Rattle.mdf_bits.specs.Field.{spot_of}
use Rattle.mdf_stream.specs.Parts.{stream_of}
use Rattle.mdf_content.proofs.Spots.{same_number}
use Rattle.mdf_block.proofs.Readers.{looks_of}
use Rattle.mdf_content.proofs.values.number_by.Goals as goal

pub overflow_add-place : goal.overflow_add-place
overflow_add-place g c = omega (arith, c.requires.covered, c.requires.within, c.len-total.ensures.size, c.len-total.ensures.small)

pub returns : goal.returns
returns g c = record {
  reads = looks_of (search rules) (λ f told.
      let s = spot_of c.args.field in
      let stream = stream_of f c.args.view.now in
      let at = c.args.place + c.args.field.byte in
      c.get.ensures.number
      ∙ ap (field_number (record s { byte = 0 }))
      (c.in_ok-read_near.ensures.reads.seen f told ∙ ap (λ (n : ℕ). bytes_at n stream at) c.requires.size)
      ∙ same_number s stream c.args.place c.args.data_bytes c.requires.covered);
}

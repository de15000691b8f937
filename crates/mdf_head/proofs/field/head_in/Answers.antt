use Rattle.std.proofs.Common.{ℕ, List, ◌∙◌, ap, lit≤, rules}
use Rattle.std.specs.Int.{w16}
use Rattle.std.proofs.lemmas.Int.{to_z-of_z}
use Rattle.mdf_block.proofs.Readers.{looks_of}
use Rattle.mdf_head.specs.Head.{the_head}
use Rattle.mdf_head.proofs.Fronts.{same_head, the_head-front}
use Rattle.mdf_head.proofs.field.head_in.Goals as goal

pub returns : goal.returns
returns g c = record {
  reads = looks_of (search rules) (λ f told.
      let block = c.args.block.now in
      let zone = to_z-of_z w16 c.i16_field.result (record { sfits = c.i16_field.type_inv }) ∙ c.i16_field.ensures in
      let daylight = to_z-of_z w16 c.i16_field-2.result (record { sfits = c.i16_field-2.type_inv }) ∙ c.i16_field-2.ensures in
      same_head c.body_in.new.buf c.args.comment c.args.first_dg _ _ _ _ _ c.u64_field.ensures zone daylight c.u64_field-2.ensures c.u64_field-3.ensures
      ∙ ap (λ (body : List ℕ). the_head body c.args.comment c.args.first_dg) (c.in_ok-body_in.ensures.reads.seen f told)
      ∙ the_head-front f block.body_at 32 block.body_len c.requires.filled.filled c.args.comment c.args.first_dg (lit≤ tt));
}

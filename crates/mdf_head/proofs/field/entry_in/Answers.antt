use Rattle.std.proofs.Common.{ℕ, List, ◌∙◌, ap, lit≤, rules}
use Rattle.std.specs.Int.{w16}
use Rattle.std.proofs.lemmas.Int.{to_z-of_z}
use Rattle.mdf_block.proofs.Readers.{looks_of}
use Rattle.mdf_head.specs.Head.{the_history}
use Rattle.mdf_head.proofs.Fronts.{same_history, the_history-front}
use Rattle.mdf_head.proofs.field.entry_in.Goals as goal

pub returns : goal.returns
returns g c = record {
  reads = looks_of (search rules) (λ f told.
      let block = c.args.block.now in
      let zone = to_z-of_z w16 c.i16_field.result (record { sfits = c.i16_field.type_inv }) ∙ c.i16_field.ensures in
      let daylight = to_z-of_z w16 c.i16_field-2.result (record { sfits = c.i16_field-2.type_inv }) ∙ c.i16_field-2.ensures in
      same_history block.at c.args.comment c.body_in.new.buf _ _ _ c.u64_field.ensures zone daylight
      ∙ ap (λ (body : List ℕ). the_history block.at body c.args.comment) (c.in_ok-body_in.ensures.reads.seen f told)
      ∙ the_history-front f block.body_at 16 block.body_len c.requires.filled.filled block.at c.args.comment (lit≤ tt));
}

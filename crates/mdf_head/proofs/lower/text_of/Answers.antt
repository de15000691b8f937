use Rattle.mdf_block.specs.Text.{note, note_refusal}
use Rattle.mdf_block.proofs.Raised.{reads_raised, hides_raised}
use Rattle.mdf_head.specs.Head.{head_refusal}
use Rattle.mdf_head.proofs.lower.text_of.Goals as goal

pub returns : goal.returns
returns g c = record {
  reads = reads_raised _ c.map_err.ensures.cases c.noted_in.ensures.reads;
  memory = λ f told.
      hides_raised note_refusal head_refusal g.P.Span.may_want _ _ (note f c.args.at c.args.left) c.map_err.ensures.cases (c.noted_in.ensures.memory f told);
}

use Rattle.mdf_block.specs.Block.{block_refusal, IsInside, IsFilled}
use Rattle.mdf_block.proofs.Raised.{reads_raised, if_ok_raised}
use Rattle.mdf_content.specs.Fault.{read_refusal}
use Rattle.mdf_model.proofs.lower.block_of.Goals as goal

pub returns : goal.returns
returns g c = record {
  reads = reads_raised _ c.map_err.ensures.cases c.block_in.ensures.reads;
  inside = if_ok_raised block_refusal read_refusal (IsInside (g.P.Span.size c.args.span.now)) _ _ c.map_err.ensures.cases c.block_in.ensures.inside;
  filled = if_ok_raised block_refusal read_refusal (IsFilled c.args.want) _ _ c.map_err.ensures.cases c.block_in.ensures.filled;
}

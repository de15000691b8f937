use Rattle.mdf_block.specs.Block.{IsInside, IsFilled}
use Rattle.mdf_block.proofs.Raised.{reads_raised, if_ok_raised}
use Rattle.mdf_conv.specs.Conv.{conv_refusal}
use Rattle.mdf_group.specs.Link.{group_refusal}
use Rattle.mdf_group.proofs.lower.block_of.Goals as goal

pub returns : goal.returns
returns g c = record {
  reads = reads_raised _ c.map_err.ensures.cases c.block_with.ensures.reads;
  inside = if_ok_raised conv_refusal group_refusal (IsInside (g.P.Span.size c.args.span.now)) _ _ c.map_err.ensures.cases c.block_with.ensures.inside;
  filled = if_ok_raised conv_refusal group_refusal (IsFilled c.args.want) _ _ c.map_err.ensures.cases c.block_with.ensures.filled;
}

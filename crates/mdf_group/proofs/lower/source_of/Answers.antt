use Rattle.mdf_block.proofs.Raised.{reads_raised}
use Rattle.mdf_group.proofs.lower.source_of.Goals as goal

pub returns : goal.returns
returns g c = record { reads = reads_raised _ c.map_err.ensures.cases c.source_at.ensures.reads }

use Rattle.mdf_block.proofs.Raised.{reads_raised}
use Rattle.mdf_conv.proofs.lower.note_of.Goals as goal

pub returns : goal.returns
returns g c = record { reads = reads_raised _ c.map_err.ensures.cases c.noted_in.ensures.reads }

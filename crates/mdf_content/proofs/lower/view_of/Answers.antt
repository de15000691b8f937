use Rattle.mdf_block.proofs.Raised.{reads_raised}
use Rattle.mdf_stream.specs.Link.{data_parts}
use Rattle.mdf_content.proofs.lower.view_of.Goals as goal

pub returns-in-Err-clause-reads : goal.returns-in-Err-clause-reads
returns-in-Err-clause-reads g c = reads_raised (λ file. data_parts file c.args.want c.args.at) c.raised.ensures c.in-Err.ensures.reads

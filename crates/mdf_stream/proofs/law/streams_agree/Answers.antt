use Rattle.mdf_stream.proofs.Streams.{streams_agree}
use Rattle.mdf_stream.proofs.law.streams_agree.Goals as goal

pub returns : goal.returns
returns c = streams_agree

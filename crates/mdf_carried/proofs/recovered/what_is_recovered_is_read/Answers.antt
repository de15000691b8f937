use Rattle.mdf_carried.proofs.Complete.{session_there}
use Rattle.mdf_carried.proofs.recovered.what_is_recovered_is_read.Goals as goal

pub returns : goal.returns
returns c = session_there

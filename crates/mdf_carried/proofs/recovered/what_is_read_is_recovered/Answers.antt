use Rattle.mdf_carried.proofs.Founds.{session_found}
use Rattle.mdf_carried.proofs.recovered.what_is_read_is_recovered.Goals as goal

pub returns : goal.returns
returns c = session_found

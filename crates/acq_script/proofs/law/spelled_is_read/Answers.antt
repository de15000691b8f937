use Rattle.acq_script.proofs.Respelled.{spelled_back}
use Rattle.acq_script.proofs.law.spelled_is_read.Goals as goal

pub returns : goal.returns
returns c = spelled_back

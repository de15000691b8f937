use Rattle.mdf_model.proofs.Complete.{measurement_there}
use Rattle.mdf_model.proofs.law.what_is_measured_is_read.Goals as goal

pub returns : goal.returns
returns c = measurement_there

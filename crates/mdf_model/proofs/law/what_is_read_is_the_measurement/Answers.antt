use Rattle.mdf_model.proofs.Wholes.{measurement_found}
use Rattle.mdf_model.proofs.law.what_is_read_is_the_measurement.Goals as goal

pub returns : goal.returns
returns c = measurement_found

use Rattle.mdf_model.proofs.Undefined.{undefined_is}
use Rattle.mdf_model.proofs.law.refused_data_has_no_measurement.Goals as goal

pub returns : goal.returns
returns c = undefined_is

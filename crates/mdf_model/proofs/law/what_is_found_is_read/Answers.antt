use Rattle.mdf_model.proofs.Fetches.{measurement_is}
use Rattle.mdf_model.proofs.law.what_is_found_is_read.Goals as goal

pub returns : goal.returns
returns c = measurement_is

use Rattle.mdf_model.proofs.Onces.{measurements_agree}
use Rattle.mdf_model.proofs.law.measurements_agree.Goals as goal

pub returns : goal.returns
returns c = measurements_agree

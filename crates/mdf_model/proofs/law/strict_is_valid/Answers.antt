use Rattle.mdf_model.proofs.Stricts.{strict_is_valid}
use Rattle.mdf_model.proofs.law.strict_is_valid.Goals as goal

pub returns : goal.returns
returns c = strict_is_valid

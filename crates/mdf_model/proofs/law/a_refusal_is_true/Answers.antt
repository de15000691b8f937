use Rattle.mdf_model.proofs.Files.{refusal_true, identify_refused}
use Rattle.mdf_model.proofs.law.a_refusal_is_true.Goals as goal

pub returns-clause-measured : goal.returns-clause-measured
returns-clause-measured c = refusal_true

pub returns-clause-identified : goal.returns-clause-identified
returns-clause-identified c = identify_refused

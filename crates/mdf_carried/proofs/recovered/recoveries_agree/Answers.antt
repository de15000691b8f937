use Rattle.mdf_carried.proofs.Onces.{recoveries_agree, samples_agree}
use Rattle.mdf_carried.proofs.recovered.recoveries_agree.Goals as goal

pub returns-clause-found : goal.returns-clause-found
returns-clause-found c = recoveries_agree

pub returns-clause-samples : goal.returns-clause-samples
returns-clause-samples c = samples_agree

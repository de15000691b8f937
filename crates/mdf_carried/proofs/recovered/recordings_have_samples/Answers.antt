use Rattle.mdf_carried.proofs.Samplings.{has_samples}
use Rattle.mdf_carried.proofs.recovered.recordings_have_samples.Goals as goal

pub returns : goal.returns
returns c = has_samples

use Rattle.mdf_carried.proofs.Grouped.{groups_have_samples}
use Rattle.mdf_carried.proofs.recovered.groups_have_their_samples.Goals as goal

pub returns : goal.returns
returns c = λ file samples is. groups_have_samples file is.found is.recovery samples is.each

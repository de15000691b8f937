use Rattle.mdf_data.proofs.Alones.{alones_found}
use Rattle.mdf_data.proofs.law.places_alone_are_the_split.Goals as goal

pub returns : goal.returns
returns c = alones_found

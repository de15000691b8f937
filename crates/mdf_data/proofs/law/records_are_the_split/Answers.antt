use Rattle.mdf_data.proofs.Pieces.{records_found}
use Rattle.mdf_data.proofs.law.records_are_the_split.Goals as goal

pub returns : goal.returns
returns c = records_found

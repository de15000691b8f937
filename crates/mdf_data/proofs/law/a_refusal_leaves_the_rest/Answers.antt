use Rattle.mdf_data.proofs.Pieces.{records_refused}
use Rattle.mdf_data.proofs.law.a_refusal_leaves_the_rest.Goals as goal

pub returns : goal.returns
returns c = records_refused

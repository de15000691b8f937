use Rattle.mdf_data.proofs.Splits.{record_splits_agree}
use Rattle.mdf_data.proofs.law.record_splits_agree.Goals as goal

pub returns : goal.returns
returns c = record_splits_agree

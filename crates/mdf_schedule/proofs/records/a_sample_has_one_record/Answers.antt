use Rattle.mdf_schedule.proofs.Owns.{encoding_once}
use Rattle.mdf_schedule.proofs.records.a_sample_has_one_record.Goals as goal

pub returns : goal.returns
returns c = encoding_once

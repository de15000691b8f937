use Rattle.mdf_model.proofs.Identified.{whole_first}
use Rattle.mdf_model.proofs.measurement.read_measurement.Goals as goal

pub returns-in-Err-clause-first : goal.returns-in-Err-clause-first
returns-in-Err-clause-first c = whole_first c.args.bytes.now c.in_ok-all.all c.in_ok-all.ensures.exact

use Rattle.mdf_model.proofs.Answers.{is_measurement, is_strict, is_refused}
use Rattle.mdf_model.proofs.read.read_file.Goals as goal

pub returns-clause-measurement : goal.returns-clause-measurement
returns-clause-measurement c = is_measurement c.args.bytes.now _ c.read_measurement.ensures.exact

pub returns-clause-strict : goal.returns-clause-strict
returns-clause-strict c = is_strict c.args.bytes.now _ c.read_measurement.ensures.exact

pub returns-clause-refused : goal.returns-clause-refused
returns-clause-refused c = is_refused c.args.bytes.now _ c.read_measurement.ensures.exact

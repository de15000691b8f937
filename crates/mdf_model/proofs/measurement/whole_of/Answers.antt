use Rattle.std.proofs.Common.{rules}
use Rattle.mdf_model.proofs.measurement.whole_of.Goals as goal

pub returns-in-Err-Memory-clause-first : goal.returns-in-Err-Memory-clause-first
returns-in-Err-Memory-clause-first c =
    rw c.in-Err-Memory.field-0-is at (c.in-Err-Memory.ensures.first c.args.bytes.now (search rules))

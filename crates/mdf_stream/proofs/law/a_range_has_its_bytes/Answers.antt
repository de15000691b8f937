use Rattle.mdf_stream.proofs.Ranges.{range_bytes, range_size}
use Rattle.mdf_stream.proofs.law.a_range_has_its_bytes.Goals as goal

pub returns-clause-bytes : goal.returns-clause-bytes
returns-clause-bytes c = range_bytes

pub returns-clause-size : goal.returns-clause-size
returns-clause-size c = range_size

use Rattle.std.proofs.Common.{rules}
use Rattle.mdf_stream.proofs.Streams.{stream_found}
use Rattle.mdf_stream.proofs.link.view_data.Goals as goal

pub returns-in-Ok-clause-stream : goal.returns-in-Ok-clause-stream
returns-in-Ok-clause-stream c =
    stream_found c.args.bytes.now c.args.want c.args.at _ (c.in-Ok.ensures.reads.found c.args.bytes.now (search rules))

pub returns-in-Err-Memory-clause-first : goal.returns-in-Err-Memory-clause-first
returns-in-Err-Memory-clause-first c =
    rw c.in-Err-Memory.field-0-is at (c.in-Err-Memory.ensures.first c.args.bytes.now (search rules))

pub returns-in-Err-Fault-clause-refused : goal.returns-in-Err-Fault-clause-refused
returns-in-Err-Fault-clause-refused c =
    rw c.in-Err-Fault.field-0-is at (c.in-Err-Fault.ensures.refused c.args.bytes.now (search rules))

use Rattle.std.proofs.Common.{rules}
use Rattle.tool_complete.proofs.Trees.{last_none, last_there}
use Rattle.tool_complete.proofs.ended.last_found.Goals as goal

pub returns-in-Ok-clause-last : goal.returns-in-Ok-clause-last
returns-in-Ok-clause-last c =
    last_there c.args.bytes.now c.in-Ok.tree _ (c.in-Ok.ensures.reads.found c.args.bytes.now (search rules)) (rw c.as_slice.ensures at c.last_of.ensures.last)

pub returns-in-Err-Fault-clause-last : goal.returns-in-Err-Fault-clause-last
returns-in-Err-Fault-clause-last c =
    last_none c.args.bytes.now _ (rw c.in-Err-Fault.field-0-is at (c.in-Err-Fault.ensures.reads.found c.args.bytes.now (search rules)))

use Rattle.std.proofs.Common.{rules}
use Rattle.mdf_block.proofs.Wholes.{block_found, block_refused}
use Rattle.mdf_block.proofs.block.block_at.Goals as goal

pub returns-in-Ok-clause-found : goal.returns-in-Ok-clause-found
returns-in-Ok-clause-found c =
    block_found c.args.bytes.now c.args.at c.args.want _ (c.in-Ok.ensures.reads.found c.args.bytes.now (search rules))

pub returns-in-Err-Fault-clause-refused : goal.returns-in-Err-Fault-clause-refused
returns-in-Err-Fault-clause-refused c =
    let refused = c.in-Err-Fault.ensures.reads.found c.args.bytes.now (search rules) in
    block_refused c.args.bytes.now c.args.at c.args.want _ (rw c.in-Err-Fault.field-0-is at refused)

use Rattle.std.proofs.Common.{rules, sym, ◌∙◌}
use Rattle.tool_complete.proofs.Trees.{mended_none, mended_there}
use Rattle.tool_complete.proofs.mended.mended_of.Goals as goal

pub returns-in-Ok-clause-mended : goal.returns-in-Ok-clause-mended
returns-in-Ok-clause-mended c =
    mended_there c.args.bytes.now c.args.last c.args.counted c.in-Ok.tree _ (c.in-Ok.ensures.reads.found c.args.bytes.now (search rules))
    (rw c.as_slice.ensures at c.mended_rows.ensures.counts) (rw c.as_slice.ensures at c.mended_rows.ensures.cut)

pub returns-in-Err-Fault-clause-mended : goal.returns-in-Err-Fault-clause-mended
returns-in-Err-Fault-clause-mended c =
    c.nothing.ensures
    ∙ sym (mended_none c.args.bytes.now c.args.last c.args.counted _ (rw c.in-Err-Fault.field-0-is at (c.in-Err-Fault.ensures.reads.found c.args.bytes.now (search rules))))

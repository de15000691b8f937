use Rattle.std.proofs.Common.{rules}
use Rattle.mdf_conv.proofs.Truths.{conv_true, refuses_true}
use Rattle.mdf_conv.proofs.read.read_conv.Goals as goal

pub returns-in-Err-Fault-clause-refused : goal.returns-in-Err-Fault-clause-refused
returns-in-Err-Fault-clause-refused c =
    let exact = rw c.in-Err-Fault.field-0-is at (c.in-Err-Fault.ensures.reads.found c.args.bytes.now (search rules)) in
    refuses_true c.args.bytes.now _ _ (conv_true c.args.bytes.now c.args.at c.args.budget.now) exact

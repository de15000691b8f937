use Rattle.std.proofs.Common.{rules}
use Rattle.mdf_conv.proofs.Truths.{refuses_true}
use Rattle.mdf_group.proofs.Truths.{rows_true}
use Rattle.mdf_group.proofs.read.read_groups.Goals as goal

pub returns-in-Ok-clause-found : goal.returns-in-Ok-clause-found
returns-in-Ok-clause-found c = c.in-Ok.ensures.found c.args.bytes.now (search rules)

pub returns-in-Ok-clause-few : goal.returns-in-Ok-clause-few
returns-in-Ok-clause-few c = c.in-Ok.ensures.few c.args.bytes.now (search rules)

pub returns-in-Ok-clause-spent : goal.returns-in-Ok-clause-spent
returns-in-Ok-clause-spent c = c.in-Ok.ensures.spent c.args.bytes.now (search rules)

pub returns-in-Err-Fault-clause-refused : goal.returns-in-Err-Fault-clause-refused
returns-in-Err-Fault-clause-refused c =
    let exact = rw c.in-Err-Fault.field-0-is at (c.in-Err-Fault.ensures.reads.found c.args.bytes.now (search rules)) in
    refuses_true c.args.bytes.now _ _ (rows_true c.args.bytes.now c.args.first c.args.budget.now) exact

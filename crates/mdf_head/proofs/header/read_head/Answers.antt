use Rattle.std.proofs.Common.{rules}
use Rattle.mdf_block.proofs.Refusals.{refuses_fails}
use Rattle.mdf_head.proofs.Spends.{head_spends}
use Rattle.mdf_head.proofs.Lacks.{fault_lacks, header_there}
use Rattle.mdf_head.proofs.header.read_head.Goals as goal

pub returns-in-Ok-clause-spent : goal.returns-in-Ok-clause-spent
returns-in-Ok-clause-spent c =
    (head_spends c.args.bytes.now c.args.budget.now _ (c.in-Ok.ensures.reads.found c.args.bytes.now (search rules))).0

pub returns-in-Ok-clause-few : goal.returns-in-Ok-clause-few
returns-in-Ok-clause-few c =
    (head_spends c.args.bytes.now c.args.budget.now _ (c.in-Ok.ensures.reads.found c.args.bytes.now (search rules))).1

pub returns-in-Err-Fault-clause-refused : goal.returns-in-Err-Fault-clause-refused
returns-in-Err-Fault-clause-refused c =
    let exact = rw c.in-Err-Fault.field-0-is at (c.in-Err-Fault.ensures.reads.found c.args.bytes.now (search rules)) in
    fault_lacks c.args.bytes.now c.args.budget.now _ (refuses_fails _ _ exact)

pub returns-in-Err-Memory-clause-first : goal.returns-in-Err-Memory-clause-first
returns-in-Err-Memory-clause-first c =
    let there = rw c.in-Err-Memory.field-0-is at (c.in-Err-Memory.ensures.first c.args.bytes.now (search rules)) in
    λ _. header_there c.args.bytes.now c.args.budget.now there.0 there.1

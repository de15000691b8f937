use Rattle.std.proofs.Common.{rules}
use Rattle.mdf_block.proofs.Notes.{note_found, note_refused, note_there}
use Rattle.mdf_block.proofs.text.note_at.Goals as goal

pub returns-in-Ok-clause-found : goal.returns-in-Ok-clause-found
returns-in-Ok-clause-found c =
    let found = c.in-Ok.ensures.reads.found c.args.bytes.now (search rules) in
    (note_found c.args.bytes.now c.args.at c.args.budget.now _ _ found).0

pub returns-in-Ok-clause-spent : goal.returns-in-Ok-clause-spent
returns-in-Ok-clause-spent c =
    let found = c.in-Ok.ensures.reads.found c.args.bytes.now (search rules) in
    (note_found c.args.bytes.now c.args.at c.args.budget.now _ _ found).1

pub returns-in-Err-Fault-clause-refused : goal.returns-in-Err-Fault-clause-refused
returns-in-Err-Fault-clause-refused c =
    let refused = c.in-Err-Fault.ensures.reads.found c.args.bytes.now (search rules) in
    note_refused c.args.bytes.now c.args.at c.args.budget.now _ (rw c.in-Err-Fault.field-0-is at refused)

pub returns-in-Err-Memory-clause-refused : goal.returns-in-Err-Memory-clause-refused
returns-in-Err-Memory-clause-refused c =
    note_there c.args.bytes.now c.args.at c.args.budget.now (rw c.in-Err-Memory.field-0-is at (c.in-Err-Memory.ensures.memory c.args.bytes.now (search rules)))

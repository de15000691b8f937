use Rattle.std.proofs.Common.{rules}
use Rattle.mdf_gate.proofs.Found.{found_later, unit_found}
use Rattle.mdf_gate.proofs.unit.unit_at.Goals as goal

pub returns-in-Ok-clause-later : goal.returns-in-Ok-clause-later
returns-in-Ok-clause-later c =
    found_later c.args.form c.args.bytes.now c.args.place _
    (unit_found c.args.form c.args.bytes.now c.args.place _ (c.in-Ok.ensures.reads.found c.args.bytes.now (search rules)))

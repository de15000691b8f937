use Rattle.mdf_command.proofs.Pieces.{gives_same, held_alone}
use Rattle.mdf_command.proofs.report.give_line.Goals as goal

pub returns-in-Ok : goal.returns-in-Ok
returns-in-Ok g c =
    let given = rw c.in-Ok.is at c.give_in_parts.ensures in
    gives_same _ _ _ _ _ (held_alone _ _ _ _ c.new-room.ensures c.bytes.ensures given.ok)
    (record { ok = c.give_all.ensures.ok; err = c.give_all.ensures.err; cause = c.give_all.ensures.cause })

use Rattle.std.proofs.Common.{inl, inr, refl}
use Rattle.mdf_rotate.proofs.rotate.course_of.Goals as goal

pub returns-in-Ok : goal.returns-in-Ok
returns-in-Ok g c = inl (c.in-Ok.script, c.in-Ok.ensures.says, c.in-Ok.ensures.script, c.begin.ensures)

pub returns-in-Err : goal.returns-in-Err
returns-in-Err g c = inr (c.in-Err.fault, c.in-Err.ensures.fault, refl)

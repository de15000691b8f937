use Rattle.mdf_make.proofs.by_tool.give_end.Goals as goal

pub returns-in-Ok : goal.returns-in-Ok
returns-in-Ok g c = rw c.in-Ok.is c.give_said.ensures

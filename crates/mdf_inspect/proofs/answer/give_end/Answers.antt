use Rattle.mdf_inspect.proofs.answer.give_end.Goals as goal

pub returns-in-Ok : goal.returns-in-Ok
returns-in-Ok g c = rw c.in-Ok.is c.give_answer.ensures

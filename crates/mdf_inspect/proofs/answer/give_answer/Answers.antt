use Rattle.mdf_inspect.proofs.answer.give_answer.Goals as goal

pub returns-in-Contents : goal.returns-in-Contents
returns-in-Contents g c = rw c.in-Contents.is c.give_contents.ensures

use Rattle.mdf_command.proofs.parts.give_parts.Goals as goal

pub returns-in-Two : goal.returns-in-Two
returns-in-Two g c = rw c.in-Two.is c.give_texts.ensures

pub returns-in-Three : goal.returns-in-Three
returns-in-Three g c = rw c.in-Three.is c.give_line-in-Three.ensures

use Rattle.script_line.proofs.Parts.{first_found, none_found}
use Rattle.script_line.proofs.text.cut.Goals as goal

pub returns-in-Some-clause-parts : goal.returns-in-Some-clause-parts
returns-in-Some-clause-parts c = first_found c.args.separator c.args.text.now c.in-Some.i c.in-Some.ensures.0 c.in-Some.ensures.1

pub returns-in-None-clause-parts : goal.returns-in-None-clause-parts
returns-in-None-clause-parts c = none_found c.args.separator c.args.text.now c.in-None.ensures

use Rattle.std.proofs.Common.{Some, sym}
use Rattle.std.specs.Option.{option_map}
use Rattle.script_line.specs.View.{seen}
use Rattle.script_line.proofs.Says.{said_so}
use Rattle.script_line.proofs.line.line_of.Goals as goal

pub returns-in-Some-clause-said : goal.returns-in-Some-clause-said
returns-in-Some-clause-said c = said_so (Some (seen c.in-Some.line)) c.args.text.now (sym c.in-Some.ensures)

pub returns-in-None-clause-said : goal.returns-in-None-clause-said
returns-in-None-clause-said c = said_so (option_map seen c.any_line.result) c.args.text.now c.any_line.ensures

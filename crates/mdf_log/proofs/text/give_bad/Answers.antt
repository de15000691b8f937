use Rattle.std.proofs.Common.{arith}
use Rattle.mdf_command.proofs.Pieces.{gives_same}
use Rattle.mdf_log.proofs.Bad.{bad_some}
use Rattle.mdf_log.proofs.text.give_bad.Goals as goal

pub returns : goal.returns
returns g c = gives_same _ _ _ _ _ (bad_some c.args.source c.args.bad (omega (arith, c.if-bad-eq0.false))) c.give_line.ensures

use Rattle.mdf_command.proofs.Pieces.{gives_same}
use Rattle.mdf_command.proofs.fault.Fault.give.Goals as goal

pub returns : goal.returns
returns g c = gives_same _ _ _ _ _ c.parts.ensures c.give_parts.ensures

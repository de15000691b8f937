use Rattle.std.proofs.Common.{arith}
use Rattle.tool_cut.proofs.Places.{stayed_front}
use Rattle.tool_cut.proofs.kept.move_record.Goals as goal

pub returns-else-kept-i-clause-front : goal.returns-else-kept-i-clause-front
returns-else-kept-i-clause-front c =
    stayed_front c.args.content.now c.args.size c.args.i c.args.kept (omega (arith, c.if-kept-i.false, c.requires.before))

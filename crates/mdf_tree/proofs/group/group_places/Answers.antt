use Rattle.std.proofs.Common.{arith}
use Rattle.mdf_tree.proofs.Past.{wants, group_rises}
use Rattle.mdf_tree.proofs.group.group_places.Goals as goal

pub returns-in_err-name-clause-past : goal.returns-in_err-name-clause-past
returns-in_err-name-clause-past c =
    wants c.from_residual.result (omega (arith, c.in_err-name.ensures.past, group_rises c.args.n c.args.row.now))

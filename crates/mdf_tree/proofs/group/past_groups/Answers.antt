use Rattle.std.proofs.Common.{◌+◌, drop}
use Rattle.mdf_block.proofs.Rests.{rest_is}
use Rattle.mdf_tree.proofs.Past.{wants, groups_past}
use Rattle.mdf_tree.proofs.group.past_groups.Goals as goal

pub returns-in_err-at-clause-past : goal.returns-in_err-at-clause-past
returns-in_err-at-clause-past c =
    let rows = c.args.rows.now in
    let i = c.loop-row.row-index in
    let row = c.row-item.result in
    wants c.from_residual.result
    (groups_past 1073741824 c.args.n c.loop-row.at rows (drop (i + 1) rows) (drop i rows) row
    (rest_is rows i row c.loop-row-test.true c.row-item.is) c.loop-row.invariant c.in_err-at.ensures.past)

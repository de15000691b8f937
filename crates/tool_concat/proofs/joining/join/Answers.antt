use Rattle.std.proofs.Common.{get_or, arith}
use Rattle.mdf_block.proofs.Items.{one_of}
use Rattle.tool_concat.specs.Making.{IsLaid}
use Rattle.tool_concat.proofs.Groups.{same_shape}
use Rattle.tool_concat.proofs.joining.join.Goals as goal

pub join_all-requires-clause-shapes : goal.join_all-requires-clause-shapes
join_all-requires-clause-shapes c k d below =
    let one = c.args.one.now.groups in
    let other = c.args.other.now.groups in
    let can = c.in_ok-can_join.ensures.can in
    same_shape (get_or one k d) (get_or other k d) (one_of IsLaid one k d c.requires.one below)
    (one_of IsLaid other k d c.requires.other (omega (arith, below, can.alike.count))) (can.alike.each k below d)

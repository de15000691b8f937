use borrow.Author.Count.{below_more}
use Rattle.std.proofs.Common.{refl}
use Rattle.tool_concat.specs.Difference.{SameAt}
use Rattle.tool_concat.proofs.difference.first_difference.Goals as goal

pub loop-group-preserved : goal.loop-group-preserved
loop-group-preserved c =
    below_more (SameAt c.args.first.now.groups c.args.second.now.groups) c.loop-group.group c.loop-group.invariant (c.if-not-same_at.ensures.0 refl)

use Rattle.tool_complete.proofs.Listed.{listed_ends, listed_full, listed_more, refused_block}
use Rattle.tool_complete.proofs.names.add_listed.Goals as goal

pub loop-left-preserved : goal.loop-left-preserved
loop-left-preserved c =
    listed_more c.args.bytes.now c.loop-left.names _ c.loop-left.left c.loop-left.at _ c.link_of-at.result c.in-Ok.list _ c.loop-left-test.true
    c.in-Ok.ensures.filled.linked c.in-Ok.ensures.exact c.in_ok-add_links.ensures c.link_of-at.ensures c.saturating_sub-left.ensures
    c.loop-left.invariant

pub returns-in_default : goal.returns-in_default
returns-in_default c =
    let refused = refused_block _ c.in_default.field-0 c.in_default.ensures.exact in
    listed_ends c.args.bytes.now c.loop-left.names c.loop-left.left c.loop-left.at _ refused.0 refused.1 c.loop-left.invariant

pub returns : goal.returns
returns c = listed_full c.args.bytes.now c.loop-left.names c.loop-left.left c.loop-left.at _ c.loop-left-test.false c.loop-left.invariant

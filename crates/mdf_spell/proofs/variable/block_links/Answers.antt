use Rattle.std.proofs.Common.{◌∙◌}
use Rattle.mdf_spell.proofs.Numbered.{block_links_step, block_links_done}
use Rattle.mdf_spell.proofs.variable.block_links.Goals as goal

pub loop-left-preserved : goal.loop-left-preserved
loop-left-preserved c =
    block_links_step c.loop-left.at c.in_ok-at.at c.loop-left.left c.loop-left.links.items c.push.new.self.items c.loop-left-test.true
    c.in_ok-push.ensures.items c.in_ok-at.ensures.sum.0
    ∙ c.loop-left.invariant

pub returns : goal.returns
returns c = block_links_done c.loop-left.at c.loop-left.left c.loop-left.links.items c.loop-left-test.false ∙ c.loop-left.invariant

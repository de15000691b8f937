use Rattle.std.proofs.Common.{arith}
use Rattle.mdf_content.proofs.Parts.{range_done, range_more}
use Rattle.mdf_content.proofs.values.add_range.Goals as goal

pub overflow_add-at : goal.overflow_add-at
overflow_add-at c =
    omega (arith, c.loop-left.invariant.within, c.first_part-part.ensures.most, c.len-total.ensures.size, c.len-total.ensures.small)

pub loop-left-preserved : goal.loop-left-preserved
loop-left-preserved c = record {
  range =
      range_more c.args.view.now c.loop-left.all c.add_part.new.view _ c.first_part-part.result c.loop-left.at c.loop-left.left
      c.loop-left.invariant.range c.first_part-part.ensures.range c.in_ok-add_part.ensures;
  within = omega (arith, c.loop-left.invariant.within, c.first_part-part.ensures.most);
}

pub returns : goal.returns
returns c = range_done c.args.view.now c.loop-left.all _ c.loop-left.at c.loop-left.left c.loop-left.invariant.range c.loop-left-test.false

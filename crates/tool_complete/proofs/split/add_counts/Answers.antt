use Rattle.tool_complete.proofs.Mends.{counts_done, counts_more}
use Rattle.tool_complete.proofs.split.add_counts.Goals as goal

pub loop-k-preserved : goal.loop-k-preserved
loop-k-preserved c = record {
  added = λ records each.
      counts_more c.args.bytes.now records c.args.groups.now c.loop-k.k _ c.index-groups-k.result c.loop-k.settings _ _ c.loop-k-test.true
      c.index-groups-k.is (each c.loop-k.k c.loop-k-test.true) c.in_ok-add_count.ensures.added (c.loop-k.invariant.added records each);
  inside = λ inside. c.in_ok-add_count.ensures.inside (c.loop-k.invariant.inside inside);
}

pub returns-clause-added : goal.returns-clause-added
returns-clause-added c = λ records each.
    counts_done c.args.bytes.now records c.args.groups.now c.loop-k.k c.loop-k.settings _ c.loop-k-test.false (c.loop-k.invariant.added records each)

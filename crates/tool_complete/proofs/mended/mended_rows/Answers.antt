use Rattle.tool_complete.specs.Completed.{counts_if}
use Rattle.tool_complete.proofs.Mends.{cut_done, cut_more, given_done, given_more}
use Rattle.tool_complete.proofs.mended.mended_rows.Goals as goal

pub loop-row-preserved : goal.loop-row-preserved
loop-row-preserved c = record {
  counts = given_more (counts_if c.args.counted c.args.bytes.now) c.args.rows.now c.loop-row.row-index c.row-item.result c.loop-row.mended.counts _ _
      c.loop-row-test.true c.row-item.is c.in_ok-mend_row.ensures.counts c.loop-row.invariant.counts;
  cut = cut_more c.args.bytes.now c.args.last c.args.rows.now c.loop-row.row-index c.row-item.result c.loop-row.mended.cut _ _ c.loop-row-test.true
      c.row-item.is c.in_ok-mend_row.ensures.cut c.loop-row.invariant.cut;
  inside = c.in_ok-mend_row.ensures.inside c.loop-row.invariant.inside;
}

pub returns-clause-counts : goal.returns-clause-counts
returns-clause-counts c =
    given_done (counts_if c.args.counted c.args.bytes.now) c.args.rows.now c.loop-row.row-index c.loop-row.mended.counts _ c.loop-row-test.false c.loop-row.invariant.counts

pub returns-clause-cut : goal.returns-clause-cut
returns-clause-cut c =
    cut_done c.args.bytes.now c.args.last c.args.rows.now c.loop-row.row-index c.loop-row.mended.cut _ c.loop-row-test.false c.loop-row.invariant.cut

use Rattle.std.proofs.Common.{◌∙◌, ℕ, List, ap}
use Rattle.std.specs.Prelude.{filter, max}
use Rattle.tool_complete.specs.Named.{greatest, is_headed}
use Rattle.tool_complete.proofs.Lasts.{last_done, last_more}
use Rattle.tool_complete.proofs.ended.last_of.Goals as goal

pub loop-row-preserved : goal.loop-row-preserved
loop-row-preserved c = record {
  last = last_more c.args.bytes.now c.args.rows.now c.loop-row.row-index c.loop-row.last _ c.row-item.result c.in_ok-names.names _ c.loop-row-test.true
      c.row-item.is c.in_ok-names.ensures (c.last_headed-last.ensures.last
      ∙ ap (λ (names : List ℕ). max c.loop-row.last (greatest (filter (is_headed c.args.bytes.now) names))) c.as_slice.ensures) c.loop-row.invariant.last;
  inside = c.last_headed-last.ensures.inside;
}

pub returns-clause-last : goal.returns-clause-last
returns-clause-last c = last_done c.args.bytes.now c.args.rows.now c.loop-row.row-index c.loop-row.last _ c.loop-row-test.false c.loop-row.invariant.last

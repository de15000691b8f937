use borrow.Author.Count.{below_more}
use Rattle.std.proofs.Common.{◌+◌, ◌^◌, ◌≤◌, ℕ}
use Rattle.std.proofs.lemmas.Bool.{both_ways}
use Rattle.tool_concat.specs.Moved.{offset_in}
use Rattle.tool_concat.specs.Wide.{data_at}
use Rattle.tool_concat.proofs.wide.has_past.Goals as goal

pub loop-i-preserved : goal.loop-i-preserved
loop-i-preserved c =
    let row = c.args.row in
    below_more (λ (j : ℕ). ¬ (2 ^ row.bits ≤ offset_in row (data_at c.args.shape.now c.args.content.now j) + c.args.shift)) c.loop-i.i c.loop-i.invariant
    (λ past. both_ways c.is_past.result c.if-is_past.false (c.is_past.ensures.1 (rw (c.record_in-bytes.ensures.bytes, c.data_bytes-data_bytes.ensures) past)))

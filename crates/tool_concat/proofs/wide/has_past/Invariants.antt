use Rattle.std.proofs.Common.{◌+◌, ◌^◌, ◌<◌, ◌≤◌, ℕ}
use Rattle.tool_concat.specs.Moved.{offset_in}
use Rattle.tool_concat.specs.Wide.{data_at}
use Rattle.tool_concat.proofs.wide.has_past.Given as goal

-- no record so far has such an offset
abbrev pub invariant-loop-i : goal.invariant-loop-i
invariant-loop-i l = (j : ℕ) → j < l.i → ¬ (2 ^ l.row.bits ≤ offset_in l.row (data_at l.shape l.content j) + l.shift)

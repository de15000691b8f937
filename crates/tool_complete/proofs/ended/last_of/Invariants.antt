use Rattle.std.proofs.Common.{◌≡◌, ◌+◌, ◌≤◌, length, drop}
use Rattle.std.specs.Prelude.{max}
use Rattle.tool_complete.specs.Ended.{last_of}
use Rattle.tool_complete.proofs.ended.last_of.Given as goal

abbrev pub invariant-loop-row : goal.invariant-loop-row
invariant-loop-row l = record {
  last : max l.last (last_of l.bytes (drop l.row-index l.rows)) ≡ last_of l.bytes l.rows;
  inside : l.last + 16 ≤ length l.bytes;
}

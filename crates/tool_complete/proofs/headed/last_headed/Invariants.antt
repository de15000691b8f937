use Rattle.std.proofs.Common.{◌≡◌, ◌+◌, ◌≤◌, length, drop}
use Rattle.std.specs.Prelude.{max, filter}
use Rattle.tool_complete.specs.Named.{greatest, is_headed}
use Rattle.tool_complete.proofs.headed.last_headed.Given as goal

abbrev pub invariant-loop-name : goal.invariant-loop-name
invariant-loop-name l = record {
  last : max l.last (greatest (filter (is_headed l.bytes) (drop l.name-index l.names))) ≡ max l.fn.last (greatest (filter (is_headed l.bytes) l.names));
  inside : l.last + 16 ≤ length l.bytes;
}

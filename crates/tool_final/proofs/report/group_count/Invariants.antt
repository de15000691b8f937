use Rattle.std.proofs.Common.{◌≡◌, ◌+◌, drop}
use Rattle.tool_final.specs.Finalized.{group_count}
use Rattle.tool_final.proofs.report.group_count.Given as goal

abbrev pub invariant-loop-group : goal.invariant-loop-group
invariant-loop-group l = l.count + group_count (drop l.group-index l.groups) ≡ group_count l.groups

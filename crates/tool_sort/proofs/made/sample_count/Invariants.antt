use Rattle.std.proofs.Common.{◌≡◌, ◌+◌, drop}
use Rattle.tool_sort.specs.Made.{sample_count}
use Rattle.tool_sort.proofs.made.sample_count.Given as goal

abbrev pub invariant-loop-i : goal.invariant-loop-i
invariant-loop-i l = l.count + sample_count (drop l.i l.measurement.groups) ≡ sample_count l.measurement.groups

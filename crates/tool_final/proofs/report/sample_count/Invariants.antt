use Rattle.std.proofs.Common.{◌≡◌, length, take}
use Rattle.std.specs.Prelude.{sum_by}
use Rattle.std.specs.List.{zip}
use Rattle.tool_final.specs.Finalized.{counted_pair}
use Rattle.tool_final.proofs.report.sample_count.Given as goal

abbrev pub invariant-loop-group : goal.invariant-loop-group
invariant-loop-group l = l.count ≡ sum_by counted_pair (take (length l.yielded) (zip l.groups l.counts))

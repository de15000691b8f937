use Rattle.std.proofs.Common.{◌≤◌, length}
use Rattle.mdf_tests.proofs.records.rows_of.Given as goal

-- at most nine rows
abbrev pub invariant-loop-channel : goal.invariant-loop-channel
invariant-loop-channel l = length l.rows ≤ 9

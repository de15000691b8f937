use Rattle.std.proofs.Common.{◌≡◌, ◌≤◌, ◌++◌, length, drop}
use Rattle.mdf_session.specs.Counted.{counts_from}
use Rattle.mdf_session.proofs.counted.counts_of.Given as goal

abbrev pub invariant-loop-k : goal.invariant-loop-k
invariant-loop-k l = record {
  counts : l.counts ++ counts_from l.lists l.k (drop l.k l.groups) ≡ counts_from l.lists 0 l.groups;
  count : length l.counts ≡ l.k;
  within : l.k ≤ length l.groups;
}

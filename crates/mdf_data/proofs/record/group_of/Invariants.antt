use Rattle.std.proofs.Common.{◌≡◌, ◌-◌, ◌≤◌, length, drop}
use Rattle.mdf_data.specs.Record.{group_of}
use Rattle.mdf_data.proofs.record.group_of.Given as goal

abbrev pub invariant-loop-k : goal.invariant-loop-k
invariant-loop-k l = record {
  within : l.k ≤ length l.known;
  rest : group_of (drop l.k l.known) l.id l.k ≡ group_of l.known l.id 0;
}

abbrev pub decreases-loop-k : goal.decreases-loop-k
decreases-loop-k l = length l.known - l.k

use Rattle.std.proofs.Common.{◌≡◌, ◌≤◌, ℕ, length, drop}
use Rattle.mdf_data.specs.Record.{group_of}
use Rattle.mdf_data.specs.Table.{find}
use Rattle.mdf_data.proofs.table.table_of.Given as goal

abbrev pub invariant-loop-k : goal.invariant-loop-k
invariant-loop-k l = record {
  within : l.k ≤ length l.known;
  rest : (id : ℕ) → find l.table id ≡ group_of (drop l.k l.known) id l.k;
}

abbrev pub decreases-loop-k : goal.decreases-loop-k
decreases-loop-k l = l.k

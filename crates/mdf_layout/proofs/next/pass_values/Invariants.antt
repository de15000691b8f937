use Rattle.std.proofs.Common.{◌≡◌, ◌<◌, ◌≤◌, ◌+◌, ◌^◌, ◌++◌, ℕ, length, get_or, take, drop}
use Rattle.mdf_layout.specs.Record.{long_values}
use Rattle.mdf_layout.specs.Behind.{variables}
use Rattle.mdf_layout.specs.Next.{added, value_sizes}
use Rattle.mdf_layout.proofs.next.pass_values.Given as goal

-- the offsets so far have grown, and those that are left grow by the values that are left
abbrev pub invariant-loop-channel : goal.invariant-loop-channel
invariant-loop-channel l = record {
  passed : added l.initial.offsets (value_sizes (long_values l.rows l.entries))
      ≡ take l.stream l.offsets ++ added (drop l.stream l.offsets) (value_sizes (long_values (drop l.channel l.rows) (drop l.channel l.entries)));
  left : l.stream + length (variables (drop l.channel l.rows)) ≡ length l.offsets;
  few : l.stream ≤ l.channel;
  small : (j : ℕ) → l.stream ≤ j → get_or l.offsets j 0 < 2 ^ 62;
}

use Rattle.std.proofs.Common.{◌≡◌, ◌+◌, ◌++◌, length, take, drop}
use Rattle.mdf_layout.specs.Record.{long_values, long_size}
use Rattle.mdf_layout.specs.Behind.{variables, value_records}
use Rattle.mdf_layout.proofs.long.put_long_values.Given as goal

-- the records so far and those of the channels that are left, their sizes and their ids
abbrev pub invariant-loop-channel : goal.invariant-loop-channel
invariant-loop-channel l = record {
  written : value_records l.id (long_values l.rows l.entries) ≡ take l.at l.out ++ value_records l.next (long_values (drop l.channel l.rows) (drop l.channel l.entries));
  left : l.at + long_size (drop l.channel l.rows) (drop l.channel l.entries) ≡ long_size l.rows l.entries;
  ids : l.next + length (variables (drop l.channel l.rows)) ≡ l.id + length (variables l.rows);
}

use Rattle.std.proofs.Common.{◌≡◌, ◌≤◌}
use Rattle.mdf_layout.specs.Values.{streams_before}
use Rattle.mdf_layout.proofs.shape.count_variables.Given as goal

-- the channels of variable length so far
abbrev pub invariant-loop-channel : goal.invariant-loop-channel
invariant-loop-channel l = record {
  before : l.count ≡ streams_before l.rows l.channel;
  few : l.count ≤ l.channel;
}

use Rattle.std.proofs.Common.{◌≡◌, ◌≤◌}
use Rattle.mdf_layout.specs.Values.{streams_before}
use Rattle.tool_concat.specs.Moved.{AreOffsetsMoved}
use Rattle.tool_concat.proofs.moved.move_offsets.Given as goal

-- the offsets of the channels so far are moved
abbrev pub invariant-loop-channel : goal.invariant-loop-channel
invariant-loop-channel l = record {
  moved : AreOffsetsMoved l.rows l.streams l.channel l.initial.bytes l.bytes;
  before : l.stream ≡ streams_before l.rows l.channel;
  few : l.stream ≤ l.channel;
}

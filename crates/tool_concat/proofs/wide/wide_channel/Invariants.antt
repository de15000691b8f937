use Rattle.std.proofs.Common.{◌≡◌, ◌<◌, ◌≤◌, ℕ}
use Rattle.mdf_layout.specs.Values.{streams_before}
use Rattle.tool_concat.specs.Wide.{IsWide}
use Rattle.tool_concat.proofs.wide.wide_channel.Given as goal

-- no channel so far has such an offset
abbrev pub invariant-loop-channel : goal.invariant-loop-channel
invariant-loop-channel l = record {
  earlier : (j : ℕ) → j < l.channel → ¬ IsWide l.shape l.content l.count l.streams j;
  before : l.stream ≡ streams_before l.rows l.channel;
  few : l.stream ≤ l.channel;
}

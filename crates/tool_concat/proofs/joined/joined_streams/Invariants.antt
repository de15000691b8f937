use Rattle.std.proofs.Common.{◌≡◌, take}
use Rattle.tool_concat.specs.Joined.{joined_streams}
use Rattle.tool_concat.proofs.joined.joined_streams.Given as goal

abbrev pub invariant-loop-k : goal.invariant-loop-k
invariant-loop-k l = l.joined ≡ joined_streams (take l.k l.streams) (take l.k l.others)

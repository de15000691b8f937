use Rattle.std.proofs.Common.{ℕ, ◌<◌, get_or}
use Rattle.mdf_group.specs.declared.row.ChannelRow.{ChannelRow}
use Rattle.tool_concat.specs.Same.{SameChannel}
use Rattle.tool_concat.proofs.group.same_channels.Given as goal

abbrev pub invariant-loop-k : goal.invariant-loop-k
invariant-loop-k l = (j : ℕ) (d : ChannelRow) → j < l.k → SameChannel (get_or l.one j d) (get_or l.other j d)

use Rattle.std.proofs.Common.{◌≡◌, drop}
use Rattle.mdf_tree.specs.Group.{past_channels}
use Rattle.mdf_tree.proofs.channel.past_channels.Given as goal

abbrev pub invariant-loop-row : goal.invariant-loop-row
invariant-loop-row l = past_channels l.at (drop l.row-index l.rows) ≡ past_channels l.n l.rows

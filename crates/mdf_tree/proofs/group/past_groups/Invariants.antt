use Rattle.std.proofs.Common.{◌≡◌, drop}
use Rattle.mdf_tree.specs.Group.{past_groups}
use Rattle.mdf_tree.proofs.group.past_groups.Given as goal

abbrev pub invariant-loop-row : goal.invariant-loop-row
invariant-loop-row l = past_groups l.at (drop l.row-index l.rows) ≡ past_groups l.n l.rows

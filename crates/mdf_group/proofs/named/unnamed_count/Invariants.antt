use Rattle.std.proofs.Common.{◌≡◌, ◌≤◌, take, length}
use Rattle.std.specs.Prelude.{filter}
use Rattle.mdf_group.specs.Group.{is_unnamed}
use Rattle.mdf_group.proofs.named.unnamed_count.Given as goal

abbrev pub invariant-loop-row : goal.invariant-loop-row
invariant-loop-row l = record {
  counted : l.count ≡ length (filter (is_unnamed l.rows) (take l.row-index l.rows));
  few : l.count ≤ l.row-index;
}

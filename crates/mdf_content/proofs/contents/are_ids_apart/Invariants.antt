use Rattle.std.proofs.Common.{◌≡◌, ◌≤◌, ℕ, true, length, drop}
use Rattle.std.specs.List.{list_any}
use Rattle.std.specs.Ordering.{nat_cmp}
use Rattle.std.specs.BTreeSet.{contains}
use Rattle.mdf_content.specs.Contents.{has_id, are_ids_apart}
use Rattle.mdf_content.proofs.contents.are_ids_apart.Given as goal

abbrev pub invariant-loop-k : goal.invariant-loop-k
invariant-loop-k l = record {
  within : l.k ≤ length l.groups;
  ids : (id : ℕ) → contains nat_cmp l.ids id ≡ list_any (has_id id) (drop l.k l.groups);
  apart : are_ids_apart (drop l.k l.groups) ≡ true;
}

abbrev pub decreases-loop-k : goal.decreases-loop-k
decreases-loop-k l = l.k

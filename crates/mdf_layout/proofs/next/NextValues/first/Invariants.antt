use Rattle.std.proofs.Common.{◌≡◌, ◌<◌, ℕ, [], length, Some}
use Rattle.std.specs.Prelude.{slice_get}
use Rattle.mdf_layout.specs.Layout.{Layout}
use Rattle.mdf_layout.specs.Behind.{first_id}
use Rattle.mdf_layout.specs.Next.{next_behind}
use Rattle.mdf_layout.proofs.next.NextValues.first.Given as goal

-- the first values of the groups so far, and the id of the next one
abbrev pub invariant-loop-group : goal.invariant-loop-group
invariant-loop-group l = record {
  count : length l.groups.items ≡ l.group;
  id_is : l.id ≡ first_id l.shapes l.group;
  each : (g : ℕ) (layout : Layout) → g < l.group → slice_get l.shapes g ≡ Some layout → slice_get l.groups.items g ≡ Some (next_behind l.shapes [] g layout);
}

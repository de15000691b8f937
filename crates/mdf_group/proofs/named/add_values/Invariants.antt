use Rattle.std.proofs.Common.{◌≡◌, ℕ, take}
use Rattle.std.specs.Prelude.{◌||◌}
use Rattle.std.specs.List.{list_any}
use Rattle.std.specs.Ordering.{nat_cmp}
use Rattle.std.specs.BTreeSet.{contains}
use Rattle.mdf_group.specs.Group.{has_values_at}
use Rattle.mdf_group.proofs.named.add_values.Given as goal

abbrev pub invariant-loop-channel : goal.invariant-loop-channel
invariant-loop-channel l =
    (at : ℕ) → contains nat_cmp l.values at
    ≡ (contains nat_cmp l.initial.values at || list_any (has_values_at at) (take l.channel-index l.channels))

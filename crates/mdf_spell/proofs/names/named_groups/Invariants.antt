use Rattle.std.proofs.Common.{◌≡◌, map, take}
use Rattle.std.specs.List.{flat_map}
use Rattle.mdf_spell.specs.Values.{values_group, own_channels}
use Rattle.mdf_spell.proofs.names.named_groups.Given as goal

abbrev pub invariant-loop-row : goal.invariant-loop-row
invariant-loop-row l =
    l.names.items ≡ map (λ channel. values_group l.rows l.numbers channel.values) (flat_map own_channels (take l.row-index l.rows))

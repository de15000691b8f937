use Rattle.std.proofs.Common.{◌≡◌, ◌++◌, map, take}
use Rattle.std.specs.Prelude.{filter}
use Rattle.mdf_group.specs.Recordable.{is_of_values}
use Rattle.mdf_spell.specs.Values.{values_group}
use Rattle.mdf_spell.proofs.names.push_names.Given as goal

abbrev pub invariant-loop-channel : goal.invariant-loop-channel
invariant-loop-channel l =
    l.names.items
    ≡ l.initial.names.items ++ map (λ channel. values_group l.rows l.numbers channel.values) (filter is_of_values (take l.channel-index l.channels))

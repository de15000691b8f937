use Rattle.std.proofs.Common.{◌≡◌, take}
use Rattle.std.specs.List.{list_any}
use Rattle.mdf_group.specs.Recordable.{is_of_values}
use Rattle.mdf_content.proofs.wanted.has_variable.Given as goal

abbrev pub invariant-loop-channel : goal.invariant-loop-channel
invariant-loop-channel l = l.found ≡ list_any is_of_values (take l.channel-index l.channels)

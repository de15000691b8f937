use Rattle.std.proofs.Common.{◌≡◌, length, take}
use Rattle.std.specs.Prelude.{filter}
use Rattle.mdf_group.specs.Recordable.{is_of_values}
use Rattle.mdf_spell.proofs.variable.variable_channels.Given as goal

abbrev pub invariant-loop-row : goal.invariant-loop-row
invariant-loop-row l = l.count ≡ length (filter is_of_values (take l.row-index l.rows))

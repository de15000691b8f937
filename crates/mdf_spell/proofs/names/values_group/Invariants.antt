use Rattle.std.proofs.Common.{◌≡◌, ◌-◌, length, drop}
use Rattle.mdf_spell.specs.Values.{values_group}
use Rattle.mdf_spell.proofs.names.values_group.Given as goal

-- the group is among those that are left
abbrev pub invariant-loop-i : goal.invariant-loop-i
invariant-loop-i l = values_group (drop l.i l.rows) (drop l.i l.numbers) l.at ≡ values_group l.rows l.numbers l.at

abbrev pub decreases-loop-i : goal.decreases-loop-i
decreases-loop-i l = length l.rows - l.i

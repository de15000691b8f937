use Rattle.std.proofs.Common.{◌≡◌, take}
use Rattle.mdf_spell.specs.Recording.{variable_count}
use Rattle.mdf_spell.proofs.variable.variable_count.Given as goal

abbrev pub invariant-loop-row : goal.invariant-loop-row
invariant-loop-row l = l.count ≡ variable_count (take l.row-index l.rows)

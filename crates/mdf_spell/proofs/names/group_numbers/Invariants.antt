use Rattle.std.proofs.Common.{◌≡◌, ◌++◌, drop}
use Rattle.mdf_spell.specs.Values.{group_numbers}
use Rattle.mdf_spell.proofs.names.group_numbers.Given as goal

-- the numbers so far and those of what is left are all
abbrev pub invariant-loop-row : goal.invariant-loop-row
invariant-loop-row l = l.numbers.items ++ group_numbers l.at (drop l.row-index l.rows) ≡ group_numbers l.n l.rows

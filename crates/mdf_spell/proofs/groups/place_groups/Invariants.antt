use Rattle.std.proofs.Common.{◌≡◌, ◌++◌, length, drop}
use Rattle.mdf_tree.specs.Group.{groups_blocks}
use Rattle.mdf_spell.specs.Counts.{counted_groups}
use Rattle.mdf_spell.proofs.groups.place_groups.Given as goal

-- the blocks so far and those of what is left are all
abbrev pub invariant-loop-i : goal.invariant-loop-i
invariant-loop-i l =
    l.draft ++ groups_blocks (length l.draft) l.rest (counted_groups (drop l.i l.counts) (drop l.i l.totals) (drop l.i l.rows))
    ≡ l.initial.draft ++ groups_blocks (length l.initial.draft) l.values (counted_groups l.counts l.totals l.rows)

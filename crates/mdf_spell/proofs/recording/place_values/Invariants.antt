use Rattle.std.proofs.Common.{[], ◌≡◌, ◌+◌, ◌-◌, ◌++◌, length}
use Rattle.mdf_tree.specs.Group.{groups_blocks}
use Rattle.mdf_spell.specs.Recording.{values_rows}
use Rattle.mdf_spell.proofs.recording.place_values.Given as goal

-- the blocks so far and those of what is left are all
abbrev pub invariant-loop-i : goal.invariant-loop-i
invariant-loop-i l =
    l.draft ++ groups_blocks (length l.draft) [] (values_rows (l.id + l.i) (l.count - l.i))
    ≡ l.initial.draft ++ groups_blocks (length l.initial.draft) [] (values_rows l.id l.count)

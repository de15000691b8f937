use Rattle.std.proofs.Common.{◌≡◌, ◌+◌, ◌++◌, length, take, drop}
use Rattle.std.specs.List.{AllByRecursion}
use Rattle.mdf_tree.specs.Group.{groups_blocks}
use Rattle.mdf_spell.specs.Recording.{numbered, values_rows}
use Rattle.mdf_tree.specs.Sized.{IsWholeSized}
use Rattle.mdf_spell.proofs.recording.place_numbered.Given as goal

-- the blocks so far and those of what is left are all
abbrev pub invariant-loop-i : goal.invariant-loop-i
invariant-loop-i l = record {
  placed : l.draft ++ groups_blocks (length l.draft) l.rest (numbered (l.i + 1) (drop l.i l.rows) ++ values_rows (length l.rows + 1) l.count)
      ≡ l.initial.draft ++ groups_blocks (length l.initial.draft) l.values (numbered 1 l.rows ++ values_rows (length l.rows + 1) l.count);
  sized : AllByRecursion IsWholeSized (take l.i l.rows);
}

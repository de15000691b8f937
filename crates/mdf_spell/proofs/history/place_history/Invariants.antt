use Rattle.std.proofs.Common.{◌≡◌, ◌++◌, [], ◌∷◌, length, drop}
use Rattle.mdf_tree.specs.Head.{history_blocks}
use Rattle.mdf_spell.proofs.history.place_history.Given as goal

-- the blocks so far and those of what is left are all
abbrev pub invariant-loop-entry : goal.invariant-loop-entry
invariant-loop-entry l =
    l.draft ++ history_blocks (length l.draft) (drop l.entry-index l.entries ++ l.last ∷ [])
    ≡ l.initial.draft ++ history_blocks (length l.initial.draft) (l.entries ++ l.last ∷ [])

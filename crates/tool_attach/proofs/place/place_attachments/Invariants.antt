use Rattle.std.proofs.Common.{◌≡◌, ◌++◌, length, drop}
use Rattle.tool_attach.specs.Attached.{attachments_blocks}
use Rattle.tool_attach.proofs.place.place_attachments.Given as goal

-- the blocks so far and those of what is left are all
abbrev pub invariant-loop-i : goal.invariant-loop-i
invariant-loop-i l =
    l.draft ++ attachments_blocks (length l.draft) (drop l.i l.rows)
    ≡ l.initial.draft ++ attachments_blocks (length l.initial.draft) l.rows

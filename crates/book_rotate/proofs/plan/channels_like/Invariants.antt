use Rattle.std.proofs.Common.{◌≡◌, take}
use Rattle.book_rotate.proofs.plan.channels_like.Given as goal

-- the copies so far
abbrev pub invariant-loop-row : goal.invariant-loop-row
invariant-loop-row l = l.copies ≡ take l.row-index l.rows

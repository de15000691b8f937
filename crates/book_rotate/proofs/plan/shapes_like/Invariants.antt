use Rattle.std.proofs.Common.{◌≡◌, take}
use Rattle.book_rotate.proofs.plan.shapes_like.Given as goal

-- the copies so far
abbrev pub invariant-loop-group : goal.invariant-loop-group
invariant-loop-group l = l.copies ≡ take l.group l.shapes

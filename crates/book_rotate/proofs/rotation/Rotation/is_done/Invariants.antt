use Rattle.std.proofs.Common.{◌≡◌, true, map, take}
use Rattle.book_rotate.specs.Part.{is_done}
use Rattle.book_rotate.proofs.rotation.Rotation.is_done.Given as goal

-- nothing is left of the lists so far
abbrev pub invariant-loop-list : goal.invariant-loop-list
invariant-loop-list l = is_done (map (λ list. list.items) (take l.list-index l.list-items)) ≡ true

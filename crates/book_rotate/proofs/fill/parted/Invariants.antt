use Rattle.std.proofs.Common.{◌≡◌, ◌++◌, ◌+◌, ◌≤◌, length, map}
use Rattle.std.specs.Vec.{vec_capacity}
use Rattle.book_rotate.specs.Fill.{left_in, parts_in}
use Rattle.book_rotate.proofs.fill.parted.Given as goal

-- the lists so far, and the shares that are left
abbrev pub invariant-loop-share : goal.invariant-loop-share
invariant-loop-share l = record {
  parts : l.parts.items ++ parts_in l.share-iterator.rest.items ≡ parts_in l.fn.filling.shares.items;
  left : map (λ list. list.items) l.lists.items ++ left_in l.share-iterator.rest.items ≡ left_in l.fn.filling.shares.items;
  room : length l.parts.items + length l.share-iterator.rest.items ≤ vec_capacity l.parts;
  room_left : length l.lists.items + length l.share-iterator.rest.items ≤ vec_capacity l.lists;
}

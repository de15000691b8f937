use Rattle.std.proofs.Common.{◌≡◌, ◌++◌, ◌+◌, ◌≤◌, All, length, map}
use Rattle.std.specs.Vec.{vec_capacity}
use Rattle.book_rotate.specs.Fill.{HasNone, tasks_in}
use Rattle.book_rotate.proofs.fill.begun.Given as goal

-- the shares so far, and the lists that are left
abbrev pub invariant-loop-left : goal.invariant-loop-left
invariant-loop-left l = record {
  tasks : tasks_in l.shares.items ++ map (λ list. list.items) l.left-iterator.rest.items ≡ map (λ list. list.items) l.fn.lists.items;
  none : All HasNone l.shares.items;
  room : length l.shares.items + length l.left-iterator.rest.items ≤ vec_capacity l.shares;
}

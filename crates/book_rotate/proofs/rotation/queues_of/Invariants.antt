use Rattle.std.proofs.Common.{◌≡◌, ◌++◌, ◌+◌, ◌≤◌, length, map}
use Rattle.std.specs.Vec.{vec_capacity}
use Rattle.book_rotate.proofs.rotation.queues_of.Given as goal

-- the lists so far, and those that are left
abbrev pub invariant-loop-list : goal.invariant-loop-list
invariant-loop-list l = record {
  lists : map (λ queue. queue.items) l.queues.items ++ l.list-iterator.rest.items ≡ l.fn.lists;
  room : length l.queues.items + length l.list-iterator.rest.items ≤ vec_capacity l.queues;
}

use Rattle.std.proofs.Common.{◌≡◌, ◌++◌, ◌+◌, ◌*◌, ◌≤◌, length, All}
use Rattle.std.specs.Vec.{vec_capacity}
use Rattle.book_rotate.specs.Part.{HasNoRoom, IsNextOrNone, lists_cost}
use Rattle.book_rotate.specs.Fill.{HasShare, MayShare, ShareFits, left_in, parts_in, tasks_in}
use Rattle.book_rotate.proofs.fill.take_all.Given as goal

-- the shares so far, and those that are left
abbrev pub invariant-loop-share : goal.invariant-loop-share
invariant-loop-share l = record {
  tasks : tasks_in l.filled.items ++ tasks_in l.share-iterator.rest.items ≡ tasks_in l.fn.filling.shares.items;
  cost : l.cost ≡ lists_cost l.plan.shapes (parts_in l.filled.items) + lists_cost l.plan.shapes (parts_in l.share-iterator.rest.items);
  room : length l.filled.items + length l.share-iterator.rest.items ≤ vec_capacity l.filled;
  fits : All (ShareFits l.plan) l.share-iterator.rest.items;
  held : l.cost ≤ l.limit;
  limit : l.limit + l.step * length l.share-iterator.rest.items ≤ l.plan.session + l.step;
  within : l.cost ≤ l.plan.session;
  full : l.fn.first ≡ l.plan.session → l.step ≡ 0 → (l.limit ≡ l.plan.session) × All (IsNextOrNone (HasNoRoom l.plan l.cost)) (left_in l.filled.items);
  fair : MayShare l.plan l.fn.filling.shares.items l.fn.filling.cost l.fn.first l.step
      → All (HasShare l.plan) l.filled.items × MayShare l.plan l.share-iterator.rest.items l.cost l.limit l.step;
}

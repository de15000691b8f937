use Rattle.std.proofs.Common.{◌≡◌, ◌++◌, map, All}
use Rattle.std.specs.Prelude.{vec_capacity}
use Rattle.std.specs.Vec.Iter.{into_iter_items}
use Rattle.acq_run.specs.Workers.{IsIdle}
use Rattle.acq_run.proofs.whole.seat_all.Given as goal

-- the seats, the feeds and the followers so far are a worker's that has not worked
abbrev pub invariant-loop-feed : goal.invariant-loop-feed
invariant-loop-feed g l = record {
  seats : map (λ worker. worker.seat) l.workers.items ++ into_iter_items l.seats ≡ l.fn.seats.items;
  feeds : map (λ worker. worker.feed) l.workers.items ++ l.feed-iterator.rest.items ≡ l.fn.feeds.items;
  followers : map (λ worker. worker.follower) l.workers.items ++ into_iter_items l.followers ≡ l.fn.followers.items;
  idle : All IsIdle l.workers.items;
  room : vec_capacity l.workers ≡ vec_capacity l.fn.workers;
}

use Rattle.std.proofs.Common.{◌≡◌, ◌++◌, map}
use Rattle.std.specs.Prelude.{vec_capacity}
use Rattle.acq_run.specs.Workers.{driven_of}
use Rattle.acq_run.proofs.whole.part_all.Given as goal

-- the workers so far are taken apart
abbrev pub invariant-loop-worker : goal.invariant-loop-worker
invariant-loop-worker g l = record {
  parts : l.yielded ++ l.worker-iterator.rest.items ≡ l.fn.workers.items;
  seats : l.seats.items ≡ map (λ worker. worker.seat) l.yielded;
  all : l.all.items ≡ map driven_of l.yielded;
  feeds : l.feeds.items ≡ map (λ worker. worker.feed) l.yielded;
  followers : l.followers.items ≡ map (λ worker. worker.follower) l.yielded;
  seats_room : vec_capacity l.seats ≡ vec_capacity l.fn.seats;
  all_room : vec_capacity l.all ≡ vec_capacity l.fn.all;
  feeds_room : vec_capacity l.feeds ≡ vec_capacity l.fn.feeds;
  followers_room : vec_capacity l.followers ≡ vec_capacity l.fn.followers;
}

use Rattle.std.proofs.Common.{◌≡◌, ◌∙◌, length, arith}
use Rattle.acq_run.specs.Workers.{driven_of}
use Rattle.acq_run.proofs.Pushing.{done_of_all, fewer_done, pushed, took_next}
use Rattle.acq_run.proofs.whole.part_all.Goals as goal

pub push_reserved-requires : goal.push_reserved-requires
push_reserved-requires g c =
    let so_far = c.loop-worker.invariant in
    omega (
      arith,
      fewer_done (λ worker. worker.seat) c.loop-worker.seats.items c.loop-worker.yielded c.loop-worker.worker-iterator.rest.items c.next.new.self.rest.items
          c.args.workers.items c.in-Some.worker so_far.seats so_far.parts c.in-Some.ensures.steps.0,
      c.loop-worker.seats.ok.0,
      so_far.seats_room,
      c.requires.room.0,
    )

pub push_reserved-requires-in-loop-worker : goal.push_reserved-requires-in-loop-worker
push_reserved-requires-in-loop-worker g c =
    let so_far = c.loop-worker.invariant in
    omega (
      arith,
      fewer_done driven_of c.loop-worker.all.items c.loop-worker.yielded c.loop-worker.worker-iterator.rest.items c.next.new.self.rest.items
          c.args.workers.items c.in-Some.worker so_far.all so_far.parts c.in-Some.ensures.steps.0,
      c.loop-worker.all.ok.0,
      so_far.all_room,
      c.requires.room.1,
    )

pub push_reserved-requires-in-loop-worker-2 : goal.push_reserved-requires-in-loop-worker-2
push_reserved-requires-in-loop-worker-2 g c =
    let so_far = c.loop-worker.invariant in
    omega (
      arith,
      fewer_done (λ worker. worker.feed) c.loop-worker.feeds.items c.loop-worker.yielded c.loop-worker.worker-iterator.rest.items c.next.new.self.rest.items
          c.args.workers.items c.in-Some.worker so_far.feeds so_far.parts c.in-Some.ensures.steps.0,
      c.loop-worker.feeds.ok.0,
      so_far.feeds_room,
      c.requires.room.2,
    )

pub push_reserved-requires-in-loop-worker-3 : goal.push_reserved-requires-in-loop-worker-3
push_reserved-requires-in-loop-worker-3 g c =
    let so_far = c.loop-worker.invariant in
    omega (
      arith,
      fewer_done (λ worker. worker.follower) c.loop-worker.followers.items c.loop-worker.yielded c.loop-worker.worker-iterator.rest.items c.next.new.self.rest.items
          c.args.workers.items c.in-Some.worker so_far.followers so_far.parts c.in-Some.ensures.steps.0,
      c.loop-worker.followers.ok.0,
      so_far.followers_room,
      c.requires.room.3,
    )

-- one worker more was taken apart
pub loop-worker-preserved : goal.loop-worker-preserved
loop-worker-preserved g c =
    let so_far = c.loop-worker.invariant in
    let worker = c.in-Some.worker in
    record {
      parts = took_next c.loop-worker.yielded c.loop-worker.worker-iterator.rest.items c.next.new.self.rest.items c.args.workers.items worker so_far.parts c.in-Some.ensures.steps.0;
      seats = pushed (λ worker. worker.seat) c.loop-worker.yielded worker c.loop-worker.seats.items _ so_far.seats c.push_reserved.ensures.items;
      all = pushed driven_of c.loop-worker.yielded worker c.loop-worker.all.items _ so_far.all c.push_reserved-in-loop-worker.ensures.items;
      feeds = pushed (λ worker. worker.feed) c.loop-worker.yielded worker c.loop-worker.feeds.items _ so_far.feeds c.push_reserved-in-loop-worker-2.ensures.items;
      followers = pushed (λ worker. worker.follower) c.loop-worker.yielded worker c.loop-worker.followers.items _ so_far.followers c.push_reserved-in-loop-worker-3.ensures.items;
      seats_room = c.push_reserved.ensures.capacity ∙ so_far.seats_room;
      all_room = c.push_reserved-in-loop-worker.ensures.capacity ∙ so_far.all_room;
      feeds_room = c.push_reserved-in-loop-worker-2.ensures.capacity ∙ so_far.feeds_room;
      followers_room = c.push_reserved-in-loop-worker-3.ensures.capacity ∙ so_far.followers_room;
    }

pub returns : goal.returns
returns g c =
    let so_far = c.loop-worker.invariant in
    let left = c.loop-worker.worker-iterator.rest in
    let none : length left.items ≡ 0 = omega (arith, left.ok.0, c.in-None.ensures.steps.0) in
    record {
      seats = done_of_all (λ worker. worker.seat) c.loop-worker.seats.items c.loop-worker.yielded left.items c.args.workers.items so_far.seats so_far.parts none;
      driven = done_of_all driven_of c.loop-worker.all.items c.loop-worker.yielded left.items c.args.workers.items so_far.all so_far.parts none;
      feeds = done_of_all (λ worker. worker.feed) c.loop-worker.feeds.items c.loop-worker.yielded left.items c.args.workers.items so_far.feeds so_far.parts none;
      followers = done_of_all (λ worker. worker.follower) c.loop-worker.followers.items c.loop-worker.yielded left.items c.args.workers.items so_far.followers so_far.parts none;
    }

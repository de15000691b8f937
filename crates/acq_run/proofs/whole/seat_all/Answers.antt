use Rattle.std.proofs.Common.{◌≡◌, All, ◌∙◌, length, arith, refl, subst, sym}
use Rattle.std.specs.Vec.Iter.{into_iter_items}
use Rattle.std.proofs.lemmas.List.Elements.{All-push}
use Rattle.acq_run.specs.Workers.{IsIdle}
use Rattle.acq_run.specs.declared.work.Ended.TheVariants.{Running}
use Rattle.acq_run.specs.declared.work.Worker.{Worker}
use Rattle.acq_run.proofs.Pushing.{all_made, fewer_made, made_of_all, moved}
use Rattle.acq_run.proofs.whole.seat_all.Goals as goal

pub push_reserved-requires : goal.push_reserved-requires
push_reserved-requires g c =
    let so_far = c.loop-feed.invariant in
    omega (
      arith,
      fewer_made (λ worker. worker.feed) c.loop-feed.workers.items c.loop-feed.feed-iterator.rest.items c.next.new.self.rest.items c.args.feeds.items c.in-Some.feed
          so_far.feeds c.in-Some.ensures.steps.0,
      c.loop-feed.workers.ok.0,
      so_far.room,
      c.requires.room,
    )

-- a worker that has not worked came behind
pub loop-feed-preserved : goal.loop-feed-preserved
loop-feed-preserved g c =
    let so_far = c.loop-feed.invariant in
    let taken = c.in-Some-Some in
    let worker : Worker g.row.F.Denot g.row.L.Denot =
    record { seat = taken.seat; feed = c.in-Some.feed; follower = taken.follower; accepted = 0; ended = Running } in
    let before = c.loop-feed.workers.items in
    let after = c.push_reserved.new.self.items in
    let grown = c.push_reserved.ensures.items in
    record {
      seats = moved (λ worker. worker.seat) before after worker (into_iter_items c.loop-feed.seats)
          (into_iter_items c.next-in-loop-feed.new.self) c.args.seats.items so_far.seats taken.ensures.items grown;
      feeds = moved (λ worker. worker.feed) before after worker c.loop-feed.feed-iterator.rest.items
          c.next.new.self.rest.items c.args.feeds.items so_far.feeds c.in-Some.ensures.steps.0 grown;
      followers = moved (λ worker. worker.follower) before after worker (into_iter_items c.loop-feed.followers)
          (into_iter_items c.next-in-loop-feed-2.new.self) c.args.followers.items so_far.followers taken.ensures'.items grown;
      idle = subst (All IsIdle) (sym grown) (All-push IsIdle before _ so_far.idle (record { accepted = refl; ended = refl }));
      room = c.push_reserved.ensures.capacity ∙ so_far.room;
    }

pub returns : goal.returns
returns g c =
    let so_far = c.loop-feed.invariant in
    let workers = c.loop-feed.workers.items in
    let left = c.loop-feed.feed-iterator.rest in
    let none : length left.items ≡ 0 = omega (arith, left.ok.0, c.in-None.ensures.steps.0) in
    let long : length c.args.feeds.items ≡ length workers = all_made (λ worker. worker.feed) workers left.items c.args.feeds.items so_far.feeds none in
    record {
      seats = made_of_all (λ worker. worker.seat) workers (into_iter_items c.loop-feed.seats) c.args.seats.items so_far.seats (c.requires.count ∙ long);
      feeds = made_of_all (λ worker. worker.feed) workers left.items c.args.feeds.items so_far.feeds long;
      followers = made_of_all (λ worker. worker.follower) workers (into_iter_items c.loop-feed.followers) c.args.followers.items so_far.followers (c.requires.followers ∙ long);
      idle = so_far.idle;
    }

use Rattle.std.proofs.Common.{◌∙◌, arith}
use Rattle.acq_run.proofs.Doing.{led_all, led_few, led_first, led_may, led_on, led_stopped, took}
use Rattle.acq_run.proofs.driving.drive_with.Goals as goal

pub loop-init : goal.loop-init
loop-init g c = record {
  led = led_first g.F.Feed.hands g.F.Feed.waits g.F.Feed.ends g.met.F.Feed.hands_none g.met.F.Feed.hands_more g.L.Follower.hears g.met.L.Follower.hears_none g.met.L.Follower.hears_more
      c.args.seat.now c.args.feed.now c.args.follower.now;
  follows = c.requires.ready.follows;
}

pub returns-in-End : goal.returns-in-End
returns-in-End g c = record {
  worked = led_all g.F.Feed.hands g.F.Feed.waits g.F.Feed.ends g.met.F.Feed.hands_none g.met.F.Feed.hands_more g.L.Follower.hears g.met.L.Follower.hears_none g.met.L.Follower.hears_more
      _ c.args.seat.now c.loop.seat c.loop.accepted c.args.feed.now c.loop.feed c.args.follower.now c.loop.follower c.loop.invariant.led c.requires.ready
      c.next-in-loop.new.self c.leave.new.self c.in-End.ensures c.leave.ensures.hands c.leave.ensures.ends;
  follows = c.loop.invariant.follows;
  counted = tt;
}

pub perform-requires-clause-table : goal.perform-requires-clause-table
perform-requires-clause-table g c κs within = c.loop.invariant.led.done.seat.table_is ∙ c.requires.ready.table_is

pub perform-requires-clause-fits : goal.perform-requires-clause-fits
perform-requires-clause-fits g c κs within =
    led_may g.F.Feed.hands g.F.Feed.waits g.F.Feed.ends g.met.F.Feed.hands_none g.met.F.Feed.hands_more g.L.Follower.hears g.met.L.Follower.hears_none g.met.L.Follower.hears_more
    _ c.args.seat.now c.loop.seat c.loop.accepted c.args.feed.now c.loop.feed c.args.follower.now c.loop.follower c.loop.invariant.led c.requires.ready
    c.next-in-loop.result c.next-in-loop.new.self
    (took g.F.Feed.hands g.F.Feed.waits g.F.Feed.ends c.loop.feed c.next-in-loop.result c.next-in-loop.new.self c.next-in-loop.ensures c.in_default.not-End).0

pub perform-requires-clause-follows : goal.perform-requires-clause-follows
perform-requires-clause-follows g c κs within = c.loop.invariant.follows

pub overflow_add-accepted : goal.overflow_add-accepted
overflow_add-accepted g c =
    let fed = took g.F.Feed.hands g.F.Feed.waits g.F.Feed.ends c.loop.feed c.next-in-loop.result c.next-in-loop.new.self c.next-in-loop.ensures c.in_default.not-End in
    omega (
      arith,
      led_few g.F.Feed.hands g.F.Feed.waits g.F.Feed.ends g.met.F.Feed.hands_none g.met.F.Feed.hands_more g.L.Follower.hears g.met.L.Follower.hears_none g.met.L.Follower.hears_more
          _ c.args.seat.now c.loop.seat c.loop.accepted c.args.feed.now c.loop.feed c.args.follower.now c.loop.follower c.loop.invariant.led c.requires.ready
          c.next-in-loop.result c.next-in-loop.new.self fed.0 c.perform.new.seat c.in-Ok.ensures.seat c.in-Ok.ensures.turns c.in-Ok.ensures.due c.perform.new.follower
          c.in-Ok.more c.in-Ok.ensures.done,
    )

pub loop-preserved : goal.loop-preserved
loop-preserved g c =
    let fed = took g.F.Feed.hands g.F.Feed.waits g.F.Feed.ends c.loop.feed c.next-in-loop.result c.next-in-loop.new.self c.next-in-loop.ensures c.in_default.not-End in
    record {
      led = led_on g.F.Feed.hands g.F.Feed.waits g.F.Feed.ends g.met.F.Feed.hands_none g.met.F.Feed.hands_more g.L.Follower.hears g.met.L.Follower.hears_none g.met.L.Follower.hears_more
          _ c.args.seat.now c.loop.seat c.loop.accepted c.args.feed.now c.loop.feed c.args.follower.now c.loop.follower c.loop.invariant.led c.requires.ready
          c.next-in-loop.result c.next-in-loop.new.self fed.0 c.perform.new.seat c.in-Ok.ensures.seat c.in-Ok.ensures.turns c.in-Ok.ensures.due c.perform.new.follower
          c.in-Ok.more c.in-Ok.ensures.done c.in-Ok.ensures.heard;
      follows = c.in-Ok.ensures.follows;
    }

pub returns-in-Err : goal.returns-in-Err
returns-in-Err g c =
    let fed = took g.F.Feed.hands g.F.Feed.waits g.F.Feed.ends c.loop.feed c.next-in-loop.result c.next-in-loop.new.self c.next-in-loop.ensures c.in_default.not-End in
    record {
      worked = led_stopped g.F.Feed.hands g.F.Feed.waits g.F.Feed.ends g.met.F.Feed.hands_none g.met.F.Feed.hands_more g.L.Follower.hears g.met.L.Follower.hears_none g.met.L.Follower.hears_more
          _ c.args.seat.now c.loop.seat c.loop.accepted c.args.feed.now c.loop.feed c.args.follower.now c.loop.follower c.loop.invariant.led c.requires.ready
          c.next-in-loop.result c.next-in-loop.new.self fed.0 c.perform.new.seat c.in-Err.ensures.seat c.in-Err.ensures.turns c.in-Err.ensures.due c.perform.new.follower
          c.in-Err.ended c.leave-in-Err.new.self c.in-Err.ensures.ended.0 c.in-Err.ensures.ended.1 c.in-Err.ensures.unheard c.leave-in-Err.ensures.hands
          (c.leave-in-Err.ensures.waits c.next-in-loop.result fed.1);
      follows = c.in-Err.ensures.follows;
      counted = c.in-Err.ensures.counted;
    }

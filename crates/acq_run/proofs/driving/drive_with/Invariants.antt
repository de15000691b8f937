use Rattle.acq_run.proofs.Doing.{HasLed}
use Rattle.acq_run.proofs.driving.drive_with.Given as goal

-- what was handed in so far was done, and the follower was told of each flush
abbrev pub invariant-loop : goal.invariant-loop
invariant-loop g l = record {
  led : HasLed g.F.Feed.hands g.L.Follower.hears l.fn.seat l.seat l.accepted l.fn.feed l.feed l.fn.follower l.follower;
  follows : g.L.Follower.follows l.follower l.seat.know.basis.terms.which l.seat.know.seen;
}

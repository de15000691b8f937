use Rattle.std.proofs.Common.{None}
use Rattle.acq_lines.specs.Handled.{Goes}
use Rattle.acq_lines.proofs.feed.LineFeedFeed.next.Given as goal

-- nothing was handed in so far, nothing is left to be told, and more was read only where it might be
abbrev pub invariant-loop : goal.invariant-loop
invariant-loop g l = Goes g.K.Sink l.fn.self None l.self

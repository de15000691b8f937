use Rattle.acq_lines.specs.Steps.{hands_none}
use Rattle.acq_lines.proofs.Goings.{feeds_on, found, goes_on, missed}
use Rattle.acq_lines.proofs.feed.LineFeedFeed.next.Goals as goal

pub returns-then-is_some : goal.returns-then-is_some
returns-then-is_some g c =
    let feed = c.args.self.now in
    let there = found feed.halt c.is_some.result c.is_some.ensures c.if-is_some.true in
    (hands_none g.K.Sink feed, record { halt = there.0; halt_is = there.1 })

pub returns-in-Some-step : goal.returns-in-Some-step
returns-in-Some-step g c =
    feeds_on g.K.Sink c.args.self.now c.loop.self c.step.new.self c.in-Some-step.task (missed c.args.self.now.halt c.is_some.result c.is_some.ensures c.if-is_some.false)
    c.loop.invariant c.in-Some-step.ensures

pub loop-preserved : goal.loop-preserved
loop-preserved g c = goes_on g.K.Sink c.args.self.now c.loop.self c.step.new.self c.step.result c.in_default.is c.loop.invariant c.step.ensures

use Rattle.std.proofs.Common.{refl}
use Rattle.mdf_port.specs.State.{source_state}
use Rattle.acq_run.specs.declared.feed.Fed.TheVariants as fed
use Rattle.acq_lines.specs.Source.{unread}
use Rattle.acq_lines.specs.Spot.{spot}
use Rattle.acq_lines.specs.Steps.{hands_none}
use Rattle.acq_lines.proofs.Goings.{ended_on, same_spot}
use Rattle.acq_lines.proofs.feed.LineFeedFeed.leave.Goals as goal

pub returns-in-None-clause-hands : goal.returns-in-None-clause-hands
returns-in-None-clause-hands g c = hands_none g.K.Sink c.args.self.now

pub returns-in-Some-Called-clause-hands : goal.returns-in-Some-Called-clause-hands
returns-in-Some-Called-clause-hands g c = hands_none g.K.Sink c.args.self.now

pub returns-in-Some-clause-hands : goal.returns-in-Some-clause-hands
returns-in-Some-clause-hands g c =
    let feed = c.args.self.now in
    let lines = c.close.new.self in
    ended_on g.K.Sink feed _ refl
    (same_spot (spot g.K.Sink feed) (source_state g.S.Source lines.source) (unread lines) c.close.ensures.left c.close.ensures.faults c.close.ensures.unread)
    refl refl (record { halt = c.in-Some.field-0; halt_is = c.in-Some.is })

pub returns-in-Some-clause-waits : goal.returns-in-Some-clause-waits
returns-in-Some-clause-waits g c (fed.Sample sample) is = is
returns-in-Some-clause-waits g c fed.Flush is = is
returns-in-Some-clause-waits g c fed.End is = is

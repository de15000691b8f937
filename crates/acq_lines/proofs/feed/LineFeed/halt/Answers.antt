use Rattle.std.proofs.Common.{refl}
use Rattle.acq_lines.specs.Spot.{fixed, spot}
use Rattle.acq_lines.specs.Steps.{none_handled}
use Rattle.acq_lines.proofs.Goings.{due_by}
use Rattle.acq_lines.proofs.feed.LineFeed.halt.Goals as goal

pub flush-requires-clause-due : goal.flush-requires-clause-due
flush-requires-clause-due g c = due_by (fixed c.args.self.now) c.args.self.now.wanted (spot g.K.Sink c.args.self.now) c.args.halt c.requires.cause c.requires.wanted

pub returns-then-not-self : goal.returns-then-not-self
returns-then-not-self g c =
    let feed = c.args.self.now in (
      record {
        fixed_is = refl;
        handled = none_handled (fixed feed) (spot g.K.Sink feed);
        stops = λ is. record { cause = c.requires.cause; committed = c.if-not-self.true; told = c.requires.asked.told };
        calm = λ well. refl;
        ended = λ halt other is. absurd (cc (c.requires.asked.running, is));
      },
      record { halt = c.args.halt; halt_is = refl },
      λ wants calm. (refl, wants),
    )

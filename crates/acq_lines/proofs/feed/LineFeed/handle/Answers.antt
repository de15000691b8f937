use Rattle.std.proofs.Common.{refl, subst}
use Rattle.std.specs.Prelude.{take}
use Rattle.acq_lines.specs.Lines.{limited}
use Rattle.acq_lines.specs.Source.{unread}
use Rattle.acq_lines.specs.Rules.{rules_of}
use Rattle.acq_lines.specs.Said.{LineFaultComes}
use Rattle.acq_lines.proofs.Goings.{unwanted, wanted_here}
use Rattle.acq_lines.proofs.feed.LineFeed.handle.Goals as goal

pub returns-in-Err-Memory : goal.returns-in-Err-Memory
returns-in-Err-Memory g c = unwanted g.K.Sink c.args.self.now _ c.halt.new.self c.halt.result c.requires.calm refl refl refl c.halt.ensures

pub invariant_of-self-clause-wants : goal.invariant_of-self-clause-wants
invariant_of-self-clause-wants g c =
    let feed = c.args.self.now in
    let line = limited (unread feed.lines).long (take c.args.count (unread feed.lines).bytes) in
    λ is. wanted_here (rules_of feed.rules) (unread feed.lines) c.args.count c.requires.found
    (subst (LineFaultComes (rules_of feed.rules) feed.number line) c.in-Err-Memory.field-0-is c.in-Err-Memory.ensures.fault)

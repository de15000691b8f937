use Rattle.std.proofs.Common.{◌∙◌, ◌+◌, ◌-◌, arith, inl, refl, ap, sym, Some}
use Rattle.std.specs.Prelude.{take}
use Rattle.mdf_port.specs.State.{source_state}
use Rattle.acq_lines.specs.Source.{unpassed, unread}
use Rattle.acq_lines.specs.Rules.{rules_of}
use Rattle.acq_lines.specs.Spot.{fixed, spot}
use Rattle.acq_lines.proofs.Goings.{before_step, line_passed, line_says, not_long, served}
use Rattle.acq_lines.proofs.feed.LineFeed.pass.Goals as goal

pub returns-in-None : goal.returns-in-None
returns-in-None g c =
    let feed = c.args.self.now in
    let says = sym c.requires.said in
    let is = ap Some c.in-None.is in (
      served g.K.Sink feed _ _ refl
          (line_passed (fixed feed) (spot g.K.Sink feed) _ _ (unread c.pass.new.self) (Some c.args.said) _ says is c.requires.may
          c.pass.ensures.reads (ap (source_state g.S.Source) c.pass.ensures.source) c.requires.running c.requires.asked.told c.requires.room) c.requires.asked.running c.requires.asked.running (ap g.S.Source.faults c.pass.ensures.source),
      record { told = c.requires.asked.told; running = c.requires.asked.running },
      inl (line_says (fixed feed) (spot g.K.Sink feed) _ _ (Some c.args.said) _ says is c.pass.ensures.reads (ap (source_state g.S.Source) c.pass.ensures.source)),
      λ wants calm. absurd (cc (c.requires.calm, wants)),
    )

pub returns-in-Some-Sample : goal.returns-in-Some-Sample
returns-in-Some-Sample g c =
    let feed = c.args.self.now in
    let says = sym c.requires.said in
    let is = ap Some (c.in-Some-Sample.is ∙ ap Some c.in-Some-Sample.field-0-is) in (
      served g.K.Sink feed _ _ refl
          (line_passed (fixed feed) (spot g.K.Sink feed) _ _ (unread c.pass.new.self) (Some c.args.said) _ says is c.requires.may
          c.pass.ensures.reads (ap (source_state g.S.Source) c.pass.ensures.source) c.requires.running c.requires.asked.told c.requires.room) c.requires.asked.running c.requires.asked.running (ap g.S.Source.faults c.pass.ensures.source),
      (c.requires.asked.running, c.requires.asked.told),
      before_step (fixed feed) (spot g.K.Sink feed) _ (unpassed c.pass.new.self) feed.pending (feed.steps + 1 - 1) (feed.count + 1 - 1)
          (ap (source_state g.S.Source) c.pass.ensures.source)
          (c.pass.ensures.back (not_long (rules_of feed.rules) feed.number (unread feed.lines).long (take c.args.count (unread feed.lines).bytes) (Some c.args.said) c.in-Some-Sample.sample
          says is)) refl (omega arith) (omega arith),
      inl (line_says (fixed feed) (spot g.K.Sink feed) _ _ (Some c.args.said) _ says is c.pass.ensures.reads (ap (source_state g.S.Source) c.pass.ensures.source)),
      λ wants calm. absurd (cc (c.requires.calm, wants)),
    )

pub returns-in-Some-Flush : goal.returns-in-Some-Flush
returns-in-Some-Flush g c =
    let feed = c.args.self.now in
    let says = sym c.requires.said in
    let is = ap Some (c.in-Some-Flush.is ∙ ap Some c.in-Some-Flush.field-0-is) in (
      served g.K.Sink feed _ _ refl
          (line_passed (fixed feed) (spot g.K.Sink feed) _ _ (unread c.pass.new.self) (Some c.args.said) _ says is c.requires.may
          c.pass.ensures.reads (ap (source_state g.S.Source) c.pass.ensures.source) c.requires.running c.requires.asked.told c.requires.room) c.requires.asked.running c.requires.asked.running (ap g.S.Source.faults c.pass.ensures.source),
      (c.requires.asked.running, refl),
      inl (line_says (fixed feed) (spot g.K.Sink feed) _ _ (Some c.args.said) _ says is c.pass.ensures.reads (ap (source_state g.S.Source) c.pass.ensures.source)),
      λ wants calm. absurd (cc (c.requires.calm, wants)),
    )

pub returns-in-Some-End : goal.returns-in-Some-End
returns-in-Some-End g c =
    let feed = c.args.self.now in
    let says = sym c.requires.said in
    let is = ap Some (c.in-Some-End.is ∙ ap Some c.in-Some-End.field-0-is) in (
      served g.K.Sink feed _ _ refl
          (line_passed (fixed feed) (spot g.K.Sink feed) _ _ (unread c.pass.new.self) (Some c.args.said) _ says is c.requires.may
          c.pass.ensures.reads (ap (source_state g.S.Source) c.pass.ensures.source) c.requires.running c.requires.asked.told c.requires.room) c.requires.asked.running c.requires.asked.running (ap g.S.Source.faults c.pass.ensures.source),
      record { told = c.requires.asked.told; running = c.requires.asked.running },
      inl (line_says (fixed feed) (spot g.K.Sink feed) _ _ (Some c.args.said) _ says is c.pass.ensures.reads (ap (source_state g.S.Source) c.pass.ensures.source)),
      λ wants calm. absurd (cc (c.requires.calm, wants)),
    )

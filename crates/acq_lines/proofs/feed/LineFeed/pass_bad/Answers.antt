use Rattle.std.proofs.Common.{inl, refl, ap, sym, None}
use Rattle.std.proofs.lemmas.List.Elements.{All-nil}
use Rattle.mdf_port.specs.State.{source_state}
use Rattle.acq_lines.specs.Source.{unread}
use Rattle.acq_lines.specs.Spot.{fixed, spot}
use Rattle.acq_lines.proofs.Goings.{line_passed, line_says, served}
use Rattle.acq_lines.proofs.feed.LineFeed.pass_bad.Goals as goal

pub returns : goal.returns
returns g c =
    let feed = c.args.self.now in
    let says = sym c.requires.said in (
      served g.K.Sink feed _ _ refl
          (line_passed (fixed feed) (spot g.K.Sink feed) _ _ (unread c.pass.new.self) None _ says refl (All-nil _)
          c.pass.ensures.reads (ap (source_state g.S.Source) c.pass.ensures.source) c.requires.running c.requires.asked.told c.requires.room) c.requires.asked.running c.requires.asked.running (ap g.S.Source.faults c.pass.ensures.source),
      record { told = c.requires.asked.told; running = c.requires.asked.running },
      inl (line_says (fixed feed) (spot g.K.Sink feed) _ _ None _ says refl c.pass.ensures.reads (ap (source_state g.S.Source) c.pass.ensures.source)),
      λ wants calm. absurd (cc (c.requires.calm, wants)),
    )

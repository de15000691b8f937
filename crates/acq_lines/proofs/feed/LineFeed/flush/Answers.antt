use Rattle.std.proofs.Common.{refl}
use Rattle.acq_lines.specs.Spot.{fixed, spot}
use Rattle.acq_lines.proofs.Goings.{flush_handled, flush_next, served}
use Rattle.acq_lines.proofs.feed.LineFeed.flush.Goals as goal

pub returns : goal.returns
returns g c =
    let feed = c.args.self.now in (
      served g.K.Sink feed _ _ refl
          (flush_handled (fixed feed) (spot g.K.Sink feed) c.requires.pending c.requires.asked.told (feed.room c.requires.pending)) c.requires.asked.running c.requires.asked.running refl,
      (c.requires.asked.running, refl),
      flush_next (fixed feed) feed.wanted (spot g.K.Sink feed) c.requires.due,
      λ wants calm. absurd (cc (c.requires.pending, calm)),
    )

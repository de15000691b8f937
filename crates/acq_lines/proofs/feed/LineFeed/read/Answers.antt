use Rattle.std.proofs.Common.{◌≡◌, [], arith, inr, refl, subst, sym}
use Rattle.mdf_port.specs.State.{source_state}
use Rattle.acq_lines.specs.Lines.{Unread, lines_behind}
use Rattle.acq_lines.specs.Source.{unread}
use Rattle.acq_lines.specs.Spot.{fixed, spot}
use Rattle.acq_lines.proofs.Goings.{failed, may_read, none_closed, rose_since, same_handled, served}
use Rattle.acq_lines.proofs.feed.LineFeed.read.Goals as goal

pub returns-in-Ok-false : goal.returns-in-Ok-false
returns-in-Ok-false g c =
    let feed = c.args.self.now in
    let lines = c.wait.new.self in (
      served g.K.Sink feed _ _ refl
          (same_handled (fixed feed) (spot g.K.Sink feed) (source_state g.S.Source lines.source) (unread lines)
          c.requires.running (omega (arith, c.in-Ok-false.ensures.calm)) c.wait.ensures.left c.wait.ensures.unread) c.requires.asked.running c.requires.asked.running c.in-Ok-false.ensures.calm,
      record { told = c.requires.asked.told; running = c.requires.asked.running },
      inr (may_read (fixed feed) (spot g.K.Sink feed) c.requires.committed c.requires.none),
      λ wants calm. absurd (cc (c.requires.calm, wants)),
    )

pub halt-requires-clause-cause : goal.halt-requires-clause-cause
halt-requires-clause-cause g c = none_closed (unread c.args.self.now.lines) c.requires.none

pub returns-in-Err : goal.returns-in-Err
returns-in-Err g c =
    let feed = c.args.self.now in
    let lines = c.wait.new.self in
    failed g.K.Sink feed _ refl
    (same_handled (fixed feed) (spot g.K.Sink feed) (source_state g.S.Source lines.source) (unread lines)
    c.requires.running c.wait.ensures.cause.later c.wait.ensures.left c.wait.ensures.unread) c.requires.asked.running refl (
      rose_since feed.first_faults _ _ feed.since c.in-Err.ensures.cause.failed,
      subst (λ (u : Unread). lines_behind u [] ≡ []) (sym c.wait.ensures.unread) (none_closed (unread feed.lines) c.requires.none),
    )
    c.requires.committed c.requires.asked.told c.requires.calm

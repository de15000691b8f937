use Rattle.std.proofs.Common.{[], arith, inr, refl}
use Rattle.mdf_port.specs.State.{source_state}
use Rattle.acq_lines.specs.Source.{unread}
use Rattle.acq_lines.specs.Spot.{fixed, spot}
use Rattle.acq_lines.proofs.Goings.{failed, goes_behind, kept_none, may_read, none_left, read_ended, read_handled, rose_since, served}
use Rattle.acq_lines.proofs.feed.LineFeed.fill.Goals as goal

pub halt-requires-clause-cause : goal.halt-requires-clause-cause
halt-requires-clause-cause g c =
    read_ended _ _ (unread c.args.self.now.lines) (unread c.fill.new.self) _ c.in-Ok-eq0.ensures.filled (omega (arith, c.in-Ok-eq0.field-0-test)) c.requires.none

pub returns-in-Ok-eq0 : goal.returns-in-Ok-eq0
returns-in-Ok-eq0 g c =
    let feed = c.args.self.now in
    let lines = c.fill.new.self in
    let filled = c.in-Ok-eq0.ensures.filled in
    goes_behind g.K.Sink feed _ c.halt.new.self c.halt.result (
      served g.K.Sink feed _ _ refl
          (read_handled (fixed feed) (spot g.K.Sink feed) (source_state g.S.Source lines.source) (unread lines) filled.bytes c.requires.committed c.requires.running
          (omega (arith, c.in-Ok-eq0.ensures.calm)) filled.consumed filled.reads) c.requires.asked.running c.requires.asked.running c.in-Ok-eq0.ensures.calm,
      record { told = c.requires.asked.told; running = c.requires.asked.running },
      inr (may_read (fixed feed) (spot g.K.Sink feed) c.requires.committed c.requires.none),
      λ wants calm. absurd (cc (c.requires.calm, wants)),
    ) c.halt.ensures

pub returns-in-Ok : goal.returns-in-Ok
returns-in-Ok g c =
    let feed = c.args.self.now in
    let lines = c.fill.new.self in
    let filled = c.in-Ok.ensures.filled in (
      served g.K.Sink feed _ _ refl
          (read_handled (fixed feed) (spot g.K.Sink feed) (source_state g.S.Source lines.source) (unread lines) filled.bytes c.requires.committed c.requires.running
          (omega (arith, c.in-Ok.ensures.calm)) filled.consumed filled.reads) c.requires.asked.running c.requires.asked.running c.in-Ok.ensures.calm,
      record { told = c.requires.asked.told; running = c.requires.asked.running },
      inr (may_read (fixed feed) (spot g.K.Sink feed) c.requires.committed c.requires.none),
      λ wants calm. absurd (cc (c.requires.calm, wants)),
    )

pub returns-in-Err : goal.returns-in-Err
returns-in-Err g c =
    let feed = c.args.self.now in
    let lines = c.fill.new.self in
    let stays = c.in-Err.ensures.stays in
    failed g.K.Sink feed _ refl
    (read_handled (fixed feed) (spot g.K.Sink feed) (source_state g.S.Source lines.source) (unread lines) [] c.requires.committed c.requires.running c.fill.ensures.cause.later
    (kept_none _ _ stays.kept) stays.reads) c.requires.asked.running refl
    (rose_since feed.first_faults _ _ feed.since c.in-Err.ensures.cause.failed, none_left (unread feed.lines) (unread lines) [] c.requires.none refl stays.reads)
    c.requires.committed c.requires.asked.told c.requires.calm

use Rattle.std.proofs.Common.{inl}
use Rattle.acq_lines.specs.Source.{unread}
use Rattle.acq_lines.proofs.Goings.{none_closed}
use Rattle.acq_lines.proofs.feed.LineFeed.step.Goals as goal

pub flush-requires-clause-due : goal.flush-requires-clause-due
flush-requires-clause-due g c = inl (none_closed (unread c.args.self.now.lines) c.in-None.ensures)

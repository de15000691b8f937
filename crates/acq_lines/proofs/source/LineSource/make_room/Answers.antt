use Rattle.std.proofs.Common.{arith}
use Rattle.acq_lines.specs.Source.{unread}
use Rattle.acq_lines.proofs.Parts.{dropped, range_long}
use Rattle.acq_lines.proofs.source.LineSource.make_room.Goals as goal

pub returns-then-count-ge-LINE_LIMIT-clause-reads : goal.returns-then-count-ge-LINE_LIMIT-clause-reads
returns-then-count-ge-LINE_LIMIT-clause-reads g c =
    let lines = c.args.self.now in
    dropped (unread lines) c.requires
    (omega (arith, c.if-count-ge-LINE_LIMIT.true, range_long lines.buffer.items lines.start lines.end lines.within))

use Rattle.std.proofs.Common.{◌+◌, arith}
use Rattle.std.specs.Prelude.{slice_range}
use Rattle.acq_lines.specs.Source.{unread}
use Rattle.acq_lines.proofs.Parts.{inside, passed, range_rest}
use Rattle.acq_lines.proofs.source.LineSource.pass.Goals as goal

pub returns-clause-reads : goal.returns-clause-reads
returns-clause-reads g c =
    let lines = c.args.self.now in
    let items = lines.buffer.items in
    let count = c.args.count in
    passed (unread lines) count (slice_range items (lines.start + (count + 1)) lines.end) c.requires
    (range_rest items lines.start lines.end (count + 1) (omega (arith, inside items lines.start lines.end count lines.front lines.within c.requires)))

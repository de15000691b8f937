use Rattle.std.proofs.Common.{arith}
use Rattle.acq_run.proofs.watcher.last_look.Goals as goal

pub found-requires : goal.found-requires
found-requires c =
    let asked = c.requires in
    omega (arith, asked.3 c.in_ok-note.note c.in_ok-note.was, c.first_reader.ensures asked.0 asked.1 asked.2 c.in-Some.reader c.in-Some.is)

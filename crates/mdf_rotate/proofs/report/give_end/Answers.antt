use Rattle.mdf_command.proofs.Pieces.{gives_same}
use Rattle.mdf_rotate.specs.Text.{records_of}
use Rattle.mdf_rotate.proofs.Lines.{whole_line}
use Rattle.mdf_rotate.proofs.report.give_end.Goals as goal

pub returns-in-Whole : goal.returns-in-Whole
returns-in-Whole g c =
    let counts = c.counts_of-begun in
    rw c.in-Whole.is (gives_same _ _ _ _ _ (whole_line (records_of c.args.parts.now) counts.result.0 counts.result.1 counts.ensures.begun counts.ensures.samples) c.give_line.ensures)

use Rattle.std.proofs.Common.{◌∙◌}
use Rattle.mdf_layout.proofs.RoundTrip.{sample_read}
use Rattle.mdf_layout.proofs.writing.encode_into.Goals as goal

pub returns-clause-sample : goal.returns-clause-sample
returns-clause-sample c = λ finders index found.
    sample_read c.args.rows.now c.args.values.now c.args.offsets.now c.put_values.new.content c.put_marks.new.inval finders index
    c.requires.fits c.requires.valid c.put_values.ensures.values c.put_marks.ensures.marks found

pub returns-clause-unused : goal.returns-clause-unused
returns-clause-unused c = λ p free. c.put_values.ensures.others p free ∙ c.requires.free p free

use Rattle.std.proofs.Common.{◌∙◌, sym}
use Rattle.mdf_layout.proofs.Longs.{no_long_size}
use Rattle.mdf_layout.proofs.shapes.long_size_in_group.Goals as goal

pub returns-then-variable_count-eq0-clause-size : goal.returns-then-variable_count-eq0-clause-size
returns-then-variable_count-eq0-clause-size c =
    sym (no_long_size c.args.shape.now.rows c.args.values.now (sym c.variable_count.ensures ∙ c.if-variable_count-eq0.true))

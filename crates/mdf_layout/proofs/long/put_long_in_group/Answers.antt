use Rattle.std.proofs.Common.{◌∙◌, ap, sym}
use Rattle.mdf_layout.specs.Behind.{value_records}
use Rattle.mdf_layout.proofs.Longs.{no_long_values, no_long_size}
use Rattle.mdf_layout.proofs.long.put_long_in_group.Goals as goal

pub returns-then-variable_count-eq0-clause-end : goal.returns-then-variable_count-eq0-clause-end
returns-then-variable_count-eq0-clause-end c =
    sym (no_long_size c.args.shape.now.rows c.args.values.now (sym c.variable_count.ensures ∙ c.if-variable_count-eq0.true))

pub returns-then-variable_count-eq0-clause-front : goal.returns-then-variable_count-eq0-clause-front
unfolding value_records
returns-then-variable_count-eq0-clause-front c =
    ap (value_records c.args.id) (sym (no_long_values c.args.shape.now.rows c.args.values.now (sym c.variable_count.ensures ∙ c.if-variable_count-eq0.true)))

use Rattle.std.proofs.Common.{◌∙◌, ap, sym, replicate}
use Rattle.mdf_layout.proofs.Nexts.{first_offsets}
use Rattle.mdf_layout.proofs.next.first_in_group.Goals as goal

pub returns-clause-offsets : goal.returns-clause-offsets
returns-clause-offsets c = c.in_ok-offsets.ensures.items_if_clones_equal (λ y is. is) ∙ ap (λ n. replicate n 0) c.variable_count.ensures ∙ sym (first_offsets c.args.shape.now.rows 0)

use Rattle.std.proofs.Common.{◌∙◌, arith}
use Rattle.std.proofs.lemmas.Result.{IfOk-weaker, on_err_weaker}
use Rattle.mdf_tree.proofs.Counts.{part_counts}
use Rattle.mdf_tree.proofs.count.conv_part_count.Goals as goal

pub returns-in-Some-clause-count : goal.returns-in-Some-clause-count
returns-in-Some-clause-count c =
    IfOk-weaker c.conv_count.result _ _ (λ count is n. is ∙ part_counts c.args.conv.now c.in-Some.conv c.in-Some.is n) c.conv_count.ensures.count

pub returns-in-Some-clause-past : goal.returns-in-Some-clause-past
returns-in-Some-clause-past c =
    on_err_weaker c.conv_count.result (λ past n. omega (arith, past, part_counts c.args.conv.now c.in-Some.conv c.in-Some.is n)) c.conv_count.ensures.past

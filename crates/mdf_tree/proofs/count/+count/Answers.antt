use Rattle.std.proofs.Common.{List, ◌∙◌, ap, arith}
use Rattle.std.proofs.lemmas.Result.{IfOk-weaker}
use Rattle.std.specs.Prelude.{◌-◌, sum_by}
use Rattle.mdf_conv.specs.declared.row.Ref.{Ref}
use Rattle.mdf_tree.specs.Count.{ref_count, conv_count}
use Rattle.mdf_tree.proofs.Counts.{count_more}
use Rattle.mdf_tree.proofs.count.+count.Goals as goal

pub conv_count-returns-clause-count : goal.conv_count-returns-clause-count
conv_count-returns-clause-count t c =
    let refs = c.in_ok-refs_count.ensures.count ∙ ap (λ (rows : List Ref). sum_by (ref_count (conv_count (c.args.levels - 1))) rows) c.as_slice.ensures in
    let more = count_more c.args.levels c.args.conv.now c.if-levels-eq0.false in
    IfOk-weaker c.plus.result _ _
    (λ count is. omega (arith, is.0, refs, more, c.note_count.ensures.count, c.note_count-2.ensures.count, c.note_count-3.ensures.count))
    c.plus.ensures.sum

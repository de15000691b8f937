use Rattle.std.proofs.Common.{◌∙◌, ◌<◌, ◌++◌, ◌∷◌, [], ap, sym, arith}
use Rattle.acq_script.specs.Generated.{count_of, tasks_of}
use Rattle.acq_script.proofs.Fits.{lists_more}
use Rattle.acq_script.proofs.generate.lists.Goals as goal

pub loop-source-preserved : goal.loop-source-preserved
loop-source-preserved c =
    let n = c.args.samples in
    let s = c.loop-source.source in
    let below : s < 4 = omega (arith, c.loop-source-test.true) in
    c.in_ok-add_list.ensures ∙ ap (λ lists. lists ++ tasks_of s (count_of n s) ∷ []) c.loop-source.invariant ∙ sym (lists_more n s below)

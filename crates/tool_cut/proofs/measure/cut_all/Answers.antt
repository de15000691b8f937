use Rattle.std.proofs.Common.{◌≡◌, ◌<◌, ℕ, List, length, get_or, set, sym, ◌∙◌, ap, subst, arith, add-one}
use Rattle.mdf_model.specs.declared.part.Measure.{Measure}
use Rattle.mdf_model.specs.Measurement.{HasSamples, Measured}
use Rattle.mdf_block.proofs.Items.{item_of, one_of}
use Rattle.tool_cut.specs.Kept.{cut_measure}
use Rattle.tool_cut.proofs.Groups.{changed, changed_all, changed_length, changed_more, changed_next}
use Rattle.tool_cut.proofs.measure.cut_all.Goals as goal

pub cut_group-requires-clause-group : goal.cut_group-requires-clause-group
cut_group-requires-clause-group c =
    let xs = c.args.measurement.now.groups in
    let cut = cut_measure c.args.range.from c.args.range.to in
    let groups = ap (λ (m : Measured). length m.groups) c.loop-group.invariant in
    omega (arith, c.loop-group-test.true, c.groups-group-end.ensures, groups, changed_length cut xs c.loop-group.group)

pub cut_group-requires-clause-samples : goal.cut_group-requires-clause-samples
cut_group-requires-clause-samples c d =
    let xs = c.args.measurement.now.groups in
    let i = c.loop-group.group in
    let cut = cut_measure c.args.range.from c.args.range.to in
    let below : i < length xs = omega (arith, c.loop-group-test.true, c.groups-group-end.ensures) in
    let same : get_or c.loop-group.measurement.groups i d ≡ get_or xs i d =
    ap (λ (m : Measured). get_or m.groups i d) c.loop-group.invariant ∙ changed_next cut xs i d below in
    subst (λ (m : Measure). HasSamples m) (sym same) (one_of HasSamples xs i d c.requires.samples below)

pub loop-group-preserved : goal.loop-group-preserved
loop-group-preserved c =
    let found = c.args.measurement.now in
    let xs = found.groups in
    let i = c.loop-group.group in
    let cut = cut_measure c.args.range.from c.args.range.to in
    let below : i < length xs = omega (arith, c.loop-group-test.true, c.groups-group-end.ensures) in
    let d = item_of xs i below in
    c.cut_group.ensures d
    ∙ ap (λ (m : Measured). record m { groups = set m.groups i (cut (get_or m.groups i d)) }) c.loop-group.invariant
    ∙ ap (λ (groups : List Measure). record found { groups = groups })
    (ap (λ (m : Measure). set (changed cut i xs) i (cut m)) (changed_next cut xs i d below) ∙ changed_more cut xs i d below
    ∙ ap (λ (n : ℕ). changed cut n xs) (sym (add-one i)))

pub returns : goal.returns
returns c =
    let found = c.args.measurement.now in
    let cut = cut_measure c.args.range.from c.args.range.to in
    c.loop-group.invariant
    ∙ ap (λ (groups : List Measure). record found { groups = groups })
    (changed_all cut found.groups c.loop-group.group (omega (arith, c.loop-group-test.false, c.groups-group-end.ensures)))

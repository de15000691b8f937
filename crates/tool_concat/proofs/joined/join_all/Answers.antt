use Rattle.std.proofs.Common.{◌<◌, length, get_or, sym, subst, arith}
use Rattle.mdf_model.specs.declared.part.Measure.{Measure}
use Rattle.tool_concat.specs.Wide.{IsNoneWide}
use Rattle.tool_concat.proofs.joined.join_all.Goals as goal

pub join_group-requires-clause-held : goal.join_group-requires-clause-held
join_group-requires-clause-held c d =
    let i = c.loop-group.group in
    let below : i < length c.args.first.now.groups = omega (arith, c.loop-group-test.true, c.groups-group-end.ensures) in
    subst (λ (m : Measure). IsNoneWide m (get_or c.args.second.now.groups i d)) (sym (c.loop-group.invariant.later i d (omega arith))) (c.requires.held i d below)

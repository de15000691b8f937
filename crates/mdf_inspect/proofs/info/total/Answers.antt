use Rattle.std.proofs.Common.{◌<◌, ◌≤◌, length, arith, ap, sym, ◌∙◌}
use Rattle.std.proofs.lemmas.List.{take_all}
use Rattle.mdf_paged.specs.Groups.{groups_of, shown_groups}
use Rattle.mdf_inspect.specs.Info.{total}
use Rattle.mdf_command.proofs.Pieces.{first_of}
use Rattle.mdf_inspect.proofs.Groups.{samples_at, shown_many}
use Rattle.mdf_inspect.proofs.Totals.{total_more}
use Rattle.mdf_inspect.proofs.info.total.Goals as goal

pub loop-group-preserved : goal.loop-group-preserved
loop-group-preserved c =
    let all = c.args.found.now in
    let i = c.loop-group.group in
    let many = sym c.groups-group-end.ensures.rows ∙ c.groups-group-end.ensures.groups in
    let below : i < length (groups_of all) = omega (arith, c.loop-group-test.true, c.groups-group-end.ensures.groups) in
    let within : i < length (shown_groups all) = omega (arith, below, shown_many all many) in
    let d = first_of (shown_groups all) i within in
    let e = first_of (groups_of all) i below in record {
      counted = total_more (shown_groups all) i d _ _ within c.loop-group.invariant.counted (c.samples_of-total.ensures.count e ∙ sym (samples_at all many i d e below));
      small = omega (arith, c.loop-group.invariant.small, c.samples_of-total.ensures.small);
    }

pub returns : goal.returns
returns c =
    let xs = shown_groups c.args.found.now in
    let same = shown_many c.args.found.now (sym c.groups-group-end.ensures.rows ∙ c.groups-group-end.ensures.groups) in
    let past : length xs ≤ c.loop-group.group = omega (arith, c.loop-group-test.false, c.groups-group-end.ensures.groups, same) in
    c.loop-group.invariant.counted ∙ ap total (take_all c.loop-group.group xs past)

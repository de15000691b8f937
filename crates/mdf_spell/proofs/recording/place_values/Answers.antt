use Rattle.std.proofs.Common.{◌+◌, ◌-◌, List, [], ◌++◌, length, sym, ◌∙◌, ap, arith}
use Rattle.mdf_group.specs.declared.row.GroupRow.{GroupRow}
use Rattle.mdf_tree.specs.Group.{past_group, groups_blocks}
use Rattle.mdf_spell.specs.Recording.{values_row, values_rows}
use Rattle.mdf_tree.proofs.Placing.{groups_step}
use Rattle.mdf_spell.proofs.Numbered.{next_values, past_value, values_more, values_done}
use Rattle.mdf_spell.proofs.recording.place_values.Goals as goal

pub loop-i-preserved : goal.loop-i-preserved
loop-i-preserved c =
    let w = c.loop-i.draft in
    let i = c.loop-i.i in
    let id = c.args.id in
    let count = c.args.count in
    let row = values_row (id + i) in
    let cut = values_more id count i c.loop-i-test.true in
    groups_step w c.place_value_group.new.draft [] row (values_rows (id + (i + 1)) (count - (i + 1))) _
    (next_values (length w + 1) (past_group (length w) row) (i + 1) (id + (i + 1)) count (past_value (length w) (id + i)))
    c.in_ok-place_value_group.ensures
    ∙ ap (λ (left : List GroupRow). w ++ groups_blocks (length w) [] left) (sym cut)
    ∙ c.loop-i.invariant

pub returns : goal.returns
returns c = values_done c.loop-i.draft c.args.id c.args.count c.loop-i.i (omega (arith, c.loop-i-test.false)) ∙ c.loop-i.invariant

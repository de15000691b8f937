use Rattle.std.proofs.Common.{◌+◌, List, ◌++◌, length, drop, slice_index_or, sym, ◌∙◌, ap, arith, length-drop}
use Rattle.std.specs.Prelude.{nat_lt}
use Rattle.mdf_block.proofs.Rests.{rest_is}
use Rattle.mdf_group.specs.declared.row.GroupRow.{GroupRow}
use Rattle.mdf_tree.specs.Group.{next_if, past_group, group_blocks, groups_blocks}
use Rattle.mdf_tree.proofs.Placing.{next_less, groups_step}
use Rattle.mdf_spell.specs.Counts.{counted_group, counted_groups}
use Rattle.mdf_spell.proofs.Lists.{cut_at, all_fit}
use Rattle.mdf_spell.proofs.Counteds.{counted_more, counted_link, groups_none}
use Rattle.mdf_spell.proofs.groups.place_groups.Goals as goal

pub loop-i-preserved : goal.loop-i-preserved
loop-i-preserved c =
    let rows = c.args.rows.now in
    let counts = c.args.counts.now in
    let totals = c.args.totals.now in
    let i = c.loop-i.i in
    let row = c.index-rows-i.result in
    let count = slice_index_or counts i 0 in
    let total = slice_index_or totals i 0 in
    let w = c.loop-i.draft in
    let values = c.loop-i.rest.now in
    let written = counted_group count total row in
    let below = c.loop-i-test.true in
    let past = past_group (length w) row in
    let link = next_if (nat_lt (i + 1) (length rows)) past in
    let left = counted_groups (drop (i + 1) counts) (drop (i + 1) totals) (drop (i + 1) rows) in
    let cut = counted_more counts totals rows i count total row
    (cut_at counts i 0 (omega (arith, below, c.requires.counts)))
    (cut_at totals i 0 (omega (arith, below, c.requires.totals)))
    (rest_is rows i row below c.index-rows-i.is) in
    let next = next_less past (i + 1) rows
    ∙ sym (counted_link past (drop (i + 1) counts) (drop (i + 1) totals) (drop (i + 1) rows)
    (omega (arith, c.requires.counts, length-drop (i + 1) counts, length-drop (i + 1) rows))
    (omega (arith, c.requires.totals, length-drop (i + 1) totals, length-drop (i + 1) rows))) in
    rw c.group_values_behind-rest.ensures (
    groups_step w c.place_group.new.draft values written left _ next
    (c.in_ok-place_group.ensures.placed
    ∙ ap (λ (given : GroupRow). w ++ group_blocks (length w) link values given) c.counted_of-counted.ensures)
    ∙ ap (λ (rest : List GroupRow). w ++ groups_blocks (length w) values rest) (sym cut)
    ∙ c.loop-i.invariant
    )

pub returns-clause-fit : goal.returns-clause-fit
returns-clause-fit c = all_fit c.args.counts.now c.type_inv.counts

pub returns-clause-placed : goal.returns-clause-placed
returns-clause-placed c =
    groups_none c.loop-i.draft c.loop-i.rest.now c.args.counts.now c.args.totals.now c.args.rows.now c.loop-i.i c.loop-i-test.false ∙ c.loop-i.invariant

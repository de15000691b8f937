use Rattle.std.proofs.Common.{◌+◌, ◌++◌, List, drop, sym, ◌∙◌, ap}
use Rattle.mdf_block.proofs.Rests.{rest_is}
use Rattle.mdf_group.specs.declared.row.GroupRow.{GroupRow}
use Rattle.mdf_spell.specs.Values.{group_numbers}
use Rattle.mdf_spell.proofs.Lists.{none_follows}
use Rattle.mdf_spell.proofs.Links.{numbers_step, no_numbers}
use Rattle.mdf_spell.proofs.names.group_numbers.Goals as goal

pub loop-row-preserved : goal.loop-row-preserved
loop-row-preserved c =
    let rows = c.args.rows.now in
    let k = c.loop-row.row-index in
    let row = c.row-item.result in
    let front = c.loop-row.numbers.items in
    let cut = rest_is rows k row c.loop-row-test.true c.row-item.is in
    numbers_step c.loop-row.at c.in_ok-at.field-0.past row (drop (k + 1) rows) front c.push.new.self.items
    c.in_ok-push.ensures.items c.in_ok-at.ensures.places.past
    ∙ ap (λ (left : List GroupRow). front ++ group_numbers c.loop-row.at left) (sym cut)
    ∙ c.loop-row.invariant

pub returns : goal.returns
returns c =
    none_follows c.loop-row.numbers.items (group_numbers c.loop-row.at) c.args.rows.now c.loop-row.row-index (no_numbers c.loop-row.at) c.loop-row-test.false
    ∙ c.loop-row.invariant

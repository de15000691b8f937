use Rattle.std.proofs.Common.{List, ◌++◌, length, ◌∙◌, ap}
use Rattle.std.proofs.lemmas.Result.{on_ok_weaker}
use Rattle.mdf_group.specs.declared.row.GroupRow.{GroupRow}
use Rattle.mdf_tree.specs.Group.{groups_blocks}
use Rattle.mdf_spell.specs.Counts.{counted_groups}
use Rattle.mdf_spell.proofs.Counteds.{data_placed}
use Rattle.mdf_spell.proofs.data.place_row.Goals as goal

pub returns-clause-placed : goal.returns-clause-placed
returns-clause-placed c =
    let w0 = c.args.draft.now in
    let row = c.args.row.now in
    let counts = c.args.counts.now in
    let totals = c.args.totals.now in
    let values = c.args.values.now in
    let w2 = c.place_note.new.draft in
    on_ok_weaker c.place_groups.result
    (λ placed. data_placed w0 c.place_own.new.draft w2 c.place_groups.new.draft c.args.content values row counts totals
    c.requires.counts c.requires.totals c.in_ok-place_own.ensures c.in_ok-place_note.ensures.ok
    (placed ∙ ap (λ (rows : List GroupRow). w2 ++ groups_blocks (length w2) values (counted_groups counts totals rows)) c.as_slice.ensures))
    c.place_groups.ensures.placed

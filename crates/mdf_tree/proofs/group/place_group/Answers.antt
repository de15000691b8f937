use Rattle.std.proofs.Common.{List, ◌++◌, length, ◌∙◌, ap}
use Rattle.std.proofs.lemmas.Result.{on_ok_weaker}
use Rattle.mdf_block.specs.declared.link.Link.{Link}
use Rattle.mdf_group.specs.declared.row.ChannelRow.{ChannelRow}
use Rattle.mdf_tree.specs.Group.{next_if, past_group, group_values, channels_blocks}
use Rattle.mdf_tree.specs.Places.{counted_row}
use Rattle.mdf_tree.proofs.Placing.{group_placed}
use Rattle.mdf_tree.proofs.group.place_group.Goals as goal

pub returns-clause-placed : goal.returns-clause-placed
returns-clause-placed c =
    let w0 = c.args.draft.now in
    let row = c.args.row.now in
    let w4 = c.place_note-2.new.draft in
    on_ok_weaker c.place_channels.result
    (λ last. group_placed w0 c.place_own.new.draft c.place_note.new.draft c.place_source_part.new.draft w4 c.place_channels.new.draft
    (next_if c.args.more (past_group (length w0) row)) c.args.values.now (counted_row c.args.counted row)
    c.in_ok-place_own.ensures.placed c.in_ok-place_note.ensures.ok c.in_ok-place_source_part.ensures c.in_ok-place_note-2.ensures.ok
    (last
    ∙ ap (λ (values : List Link). w4 ++ channels_blocks (length w4) values c.as_slice.result.now) c.group_values.ensures
    ∙ ap (λ (rows : List ChannelRow). w4 ++ channels_blocks (length w4) (group_values c.args.values.now row) rows) c.as_slice.ensures))
    c.place_channels.ensures.placed

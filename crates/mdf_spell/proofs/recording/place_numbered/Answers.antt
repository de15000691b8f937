use Rattle.std.proofs.Common.{◌+◌, List, ◌++◌, length, drop, sym, ◌∙◌, ap}
use Rattle.mdf_block.specs.Draft.{Placed}
use Rattle.mdf_block.proofs.Rests.{rest_is}
use Rattle.mdf_group.specs.declared.row.GroupRow.{GroupRow}
use Rattle.mdf_tree.specs.Group.{past_group, groups_blocks}
use Rattle.mdf_spell.specs.Recording.{numbered, values_rows}
use Rattle.mdf_tree.specs.Sized.{IsWholeSized}
use Rattle.mdf_tree.proofs.Placing.{all_taken, groups_step}
use Rattle.mdf_spell.proofs.Numbered.{next_group, numbered_more, numbered_done, values_free}
use Rattle.mdf_spell.proofs.recording.place_numbered.Goals as goal

pub loop-i-preserved : goal.loop-i-preserved
loop-i-preserved c =
    let rows = c.args.rows.now in
    let i = c.loop-i.i in
    let row = c.index-rows-i.result in
    let w = c.loop-i.draft in
    let values = c.loop-i.rest.now in
    let back = values_rows (length rows + 1) c.args.count in
    let cut = rest_is rows i row c.loop-i-test.true c.index-rows-i.is in
    let more = numbered_more (i + 1) rows i row cut in
    let own = c.in_ok-place_group.ensures.sized in
    record {
      placed = rw c.group_values_behind-rest.ensures (
          groups_step w c.place_group.new.draft values (record row { id = i + 1; cycles = 0 }) (numbered (i + 1 + 1) (drop (i + 1) rows) ++ back) _
          (next_group c.is_followed.result (past_group (length w) row) (i + 1) (i + 1 + 1) (length rows + 1) c.args.count rows c.is_followed.ensures)
          c.in_ok-place_group.ensures.placed
          ∙ ap (λ (left : List GroupRow). w ++ groups_blocks (length w) values (left ++ back)) (sym more)
          ∙ c.loop-i.invariant.placed
          );
      sized = all_taken IsWholeSized rows i row c.loop-i-test.true c.index-rows-i.is c.loop-i.invariant.sized
          (record {
            own = record { flags = own.flags; separator = own.separator; data_bytes = own.data_bytes; inval_bytes = own.inval_bytes };
            channels = c.in_ok-place_group.ensures.channels;
          });
    }

pub returns-clause-placed : goal.returns-clause-placed
returns-clause-placed c = λ left.
    let rows = c.args.rows.now in
    let w = c.loop-i.draft in
    let values = c.loop-i.rest.now in
    let back = values_rows (length rows + 1) c.args.count in
    let none = numbered_done (c.loop-i.i + 1) rows c.loop-i.i c.loop-i-test.false in
    ap (λ (blocks : List Placed). w ++ blocks) (values_free (length w) (length rows + 1) c.args.count left values)
    ∙ ap (λ (front : List GroupRow). w ++ groups_blocks (length w) values (front ++ back)) (sym none)
    ∙ c.loop-i.invariant.placed

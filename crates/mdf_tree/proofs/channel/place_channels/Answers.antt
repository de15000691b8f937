use Rattle.std.proofs.Common.{◌+◌, ◌++◌, List, length, drop, sym, ◌∙◌, ap}
use Rattle.mdf_block.proofs.Rests.{rest_is}
use Rattle.mdf_group.specs.declared.row.ChannelRow.{ChannelRow}
use Rattle.mdf_tree.specs.Group.{past_channel, channels_blocks, IsChannelSized}
use Rattle.mdf_tree.proofs.Placing.{all_taken, next_less, channels_step, channels_done}
use Rattle.mdf_tree.proofs.channel.place_channels.Goals as goal

pub loop-i-preserved : goal.loop-i-preserved
loop-i-preserved c =
    let rows = c.args.rows.now in
    let i = c.loop-i.i in
    let row = c.index-rows-i.result in
    let w = c.loop-i.draft in
    let values = c.loop-i.rest.now in
    let cut = rest_is rows i row c.loop-i-test.true c.index-rows-i.is in
    record {
      placed = rw c.values_behind-rest.ensures (
          channels_step w c.place_channel.new.draft values row (drop (i + 1) rows) _ c.value_link.result
          (next_less (past_channel (length w) row) (i + 1) rows) c.value_link.ensures c.in_ok-place_channel.ensures.placed
          ∙ ap (λ (left : List ChannelRow). w ++ channels_blocks (length w) values left) (sym cut)
          ∙ c.loop-i.invariant.placed
          );
      sized = all_taken IsChannelSized rows i row c.loop-i-test.true c.index-rows-i.is c.loop-i.invariant.sized c.in_ok-place_channel.ensures.sized;
    }

pub returns-clause-placed : goal.returns-clause-placed
returns-clause-placed c =
    channels_done c.loop-i.draft c.loop-i.rest.now c.args.rows.now c.loop-i.i c.loop-i-test.false ∙ c.loop-i.invariant.placed

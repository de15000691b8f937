use Rattle.std.proofs.Common.{List, Err, get_or, sym, ◌∙◌, ap}
use Rattle.mdf_block.specs.Refusal as refusals
use Rattle.mdf_group.specs.declared.row.ChannelRow.{ChannelRow}
use Rattle.mdf_content.proofs.Laid.{unplaced_is}
use Rattle.mdf_content.proofs.layouts.unplaced.Goals as goal

pub returns : goal.returns
returns c =
    let one = c.index-placed_channels-channel in
    unplaced_is c.args.group.now c.args.channel one.result c.requires.bad
    ∙ ap (λ (xs : List ChannelRow). Err (refusals.Layout (get_or xs c.args.channel one.result).at)) (sym c.placed_channels.ensures)

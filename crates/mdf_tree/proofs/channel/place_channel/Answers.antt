use Rattle.std.proofs.Common.{length}
use Rattle.std.proofs.lemmas.Result.{on_ok_weaker}
use Rattle.mdf_tree.specs.Group.{next_if, past_channel}
use Rattle.mdf_tree.proofs.Placing.{channel_placed}
use Rattle.mdf_tree.proofs.channel.place_channel.Goals as goal

pub returns-clause-placed : goal.returns-clause-placed
returns-clause-placed c =
    let w = c.args.draft.now in
    let row = c.args.row.now in
    on_ok_weaker c.place_parts.result
    (λ parts. channel_placed w c.place_own.new.draft c.place_parts.new.draft c.in_ok-n.n (next_if c.args.more (past_channel (length w) row))
    c.args.values row c.in_ok-n.ensures.number.0 c.in_ok-place_own.ensures.placed parts)
    c.place_parts.ensures

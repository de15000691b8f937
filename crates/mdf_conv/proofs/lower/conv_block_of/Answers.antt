use Rattle.mdf_conv.proofs.Levels.{holds_values, if_ok_from}
use Rattle.mdf_conv.proofs.lower.conv_block_of.Goals as goal

pub returns-clause-values : goal.returns-clause-values
returns-clause-values g c =
    if_ok_from c.block_with.result (λ b is f told. holds_values f c.args.at b (rw is at (c.block_with.ensures.reads.found f told)))

use Rattle.std.proofs.Common.{arith}
use Rattle.mdf_conv.proofs.Levels.{if_ok_from}
use Rattle.mdf_conv.proofs.Costs.{spends, source_falls}
use Rattle.mdf_conv.proofs.source.source_in.Goals as goal

pub returns-clause-spent : goal.returns-clause-spent
returns-clause-spent g c = λ f told.
    if_ok_from c.whole_in.result (λ found is.
    spends _ _ _ (source_falls f c.args.at c.args.budget found (rw is at (c.whole_in.ensures.reads.found f told))) (omega arith))

use Rattle.std.proofs.Common.{arith}
use Rattle.mdf_conv.proofs.Costs.{spends}
use Rattle.mdf_group.proofs.Costs.{rows_take}
use Rattle.mdf_group.proofs.read.all_in.Goals as goal

pub returns-clause-few : goal.returns-clause-few
returns-clause-few g c = λ f told. (rows_take f c.args.first c.args.budget _ (c.in_ok-rows.ensures.reads.found f told)).1

pub returns-clause-spent : goal.returns-clause-spent
returns-clause-spent g c = λ f told.
    spends _ _ _ (rows_take f c.args.first c.args.budget _ (c.in_ok-rows.ensures.reads.found f told)).0 (omega arith)

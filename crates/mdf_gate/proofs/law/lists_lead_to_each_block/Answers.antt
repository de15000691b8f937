use Rattle.mdf_gate.proofs.Chains.{opened_chained}
use Rattle.mdf_gate.proofs.law.lists_lead_to_each_block.Goals as goal

pub returns : goal.returns
returns c = opened_chained

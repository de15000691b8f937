use Rattle.mdf_gate.proofs.Once.{opened_once, carried_once}
use Rattle.mdf_gate.proofs.law.carries_one_list.Goals as goal

pub returns-clause-blocks : goal.returns-clause-blocks
returns-clause-blocks c = opened_once

pub returns-clause-samples : goal.returns-clause-samples
returns-clause-samples c = carried_once

use Rattle.mdf_block.proofs.Refusals.{hides_none}
use Rattle.mdf_head.proofs.header.headed_in.Goals as goal

pub returns-in_err-rows-clause-first : goal.returns-in_err-rows-clause-first
returns-in_err-rows-clause-first g c = λ f told. hides_none _ _ _ _ (c.in_ok-head.ensures.reads.found f told)

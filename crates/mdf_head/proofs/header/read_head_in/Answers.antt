use Rattle.mdf_head.proofs.Heads.{head_found}
use Rattle.mdf_head.proofs.header.read_head_in.Goals as goal

pub returns-clause-found : goal.returns-clause-found
returns-clause-found g c = λ f told. head_found f c.args.budget.now _ (c.in_ok-found.ensures.reads.found f told)

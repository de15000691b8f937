use Rattle.mdf_group.proofs.Stands.{all_found}
use Rattle.mdf_group.proofs.read.read_groups_in.Goals as goal

pub returns-clause-found : goal.returns-clause-found
returns-clause-found g c = λ f told. all_found f c.args.first c.args.budget.now _ (c.in_ok-rows.ensures.reads.found f told)

use Rattle.mdf_block.proofs.Refusals.{hides_none}
use Rattle.mdf_model.proofs.whole.whole_for_in.Goals as goal

pub returns-in_err-tree-clause-first : goal.returns-in_err-tree-clause-first
returns-in_err-tree-clause-first g c = λ f told. hides_none _ _ _ _ (c.in_ok-ident.ensures.reads.found f told)

pub returns-in_err-found-clause-first : goal.returns-in_err-found-clause-first
returns-in_err-found-clause-first g c = λ f told. hides_none _ _ _ _ (c.in_ok-ident.ensures.reads.found f told)

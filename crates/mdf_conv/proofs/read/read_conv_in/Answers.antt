use Rattle.mdf_conv.proofs.Founds.{conv_found}
use Rattle.mdf_conv.proofs.read.read_conv_in.Goals as goal

pub returns-clause-found : goal.returns-clause-found
returns-clause-found g c = λ f told. conv_found 4 f c.args.at c.args.budget.now _ (c.in_ok-found.ensures.reads.found f told)

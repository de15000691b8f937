use Rattle.mdf_head.proofs.Identities.{identified}
use Rattle.mdf_head.proofs.identify.ident.Goals as goal

pub returns-clause-exact : goal.returns-clause-exact
returns-clause-exact c =
    identified c.args.bytes.now c.ident_of.result c.ident_of.ensures.mdf c.ident_of.ensures.found c.ident_of.ensures.refused

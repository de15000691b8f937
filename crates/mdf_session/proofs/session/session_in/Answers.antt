use Rattle.mdf_block.proofs.Refusals.{hides_none}
use Rattle.mdf_session.proofs.Firsts.{ident_first}
use Rattle.mdf_session.proofs.session.session_in.Goals as goal

pub session_with-requires : goal.session_with-requires
session_with-requires g c = record { counted = c.in_ok-found.ensures.counted c.in_ok-content.content }

pub returns-in_err-content-clause-first : goal.returns-in_err-content-clause-first
returns-in_err-content-clause-first g c = λ f told.
    let ident = ident_first f _ (c.in_ok-found.ensures.reads.found f told) in hides_none _ _ _ _ ident.1

use Rattle.std.proofs.Common.{List, subst}
use Rattle.mdf_group.specs.declared.row.DataRow.{DataRow}
use Rattle.mdf_block.proofs.Refusals.{hides_none}
use Rattle.mdf_session.specs.Session.{HasFirst}
use Rattle.mdf_session.specs.Standing.{with_content}
use Rattle.mdf_session.proofs.session.found_in.Goals as goal

pub returns-clause-counted : goal.returns-clause-counted
returns-clause-counted g c = λ content.
    subst (λ (rows : List DataRow). HasFirst rows (with_content content c.in_ok-standing.standing)) c.as_slice.ensures
    (c.in_ok-standing.ensures.counted content)

pub returns-in_err-tree-clause-first : goal.returns-in_err-tree-clause-first
returns-in_err-tree-clause-first g c = λ f told. hides_none _ _ _ _ (c.in_ok-id.ensures.reads.found f told)

pub returns-in_err-standing-clause-first : goal.returns-in_err-standing-clause-first
returns-in_err-standing-clause-first g c = λ f told. hides_none _ _ _ _ (c.in_ok-id.ensures.reads.found f told)

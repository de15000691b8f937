use Rattle.std.proofs.Common.{sym, ◌∙◌, ap}
use Rattle.mdf_group.specs.declared.row.GroupRow.{GroupRow}
use Rattle.mdf_content.proofs.Strictness.{said_other, said_same, said_done}
use Rattle.mdf_content.proofs.contents.are_said.Goals as goal

pub returns-then-groups-k : goal.returns-then-groups-k
returns-then-groups-k c =
    let one = c.index-groups-k in
    said_other c.args.lists.now c.args.groups.now c.loop-k.k c.count_at.result one.result c.loop-k-test.true one.is c.count_at.ensures
    (λ same. c.if-groups-k.true (ap (λ (group : GroupRow). group.cycles) (sym one.is) ∙ same)) c.loop-k.invariant

pub loop-k-preserved : goal.loop-k-preserved
loop-k-preserved c =
    let one = c.index-groups-k in
    said_same c.args.lists.now c.args.groups.now c.loop-k.k c.count_at.result one.result c.loop-k-test.true one.is c.count_at.ensures
    (ap (λ (group : GroupRow). group.cycles) one.is ∙ c.if-groups-k.false) c.loop-k.invariant

pub returns : goal.returns
returns c = sym (sym c.loop-k.invariant ∙ said_done c.args.lists.now c.args.groups.now c.loop-k.k c.loop-k-test.false)

use Rattle.std.proofs.Common.{◌∙◌, length, All, ap, sym, subst, arith}
use Rattle.book_shared_tests.specs.Lists.{IsOf}
use Rattle.book_shared_tests.proofs.Feeding.{whole}
use Rattle.book_shared_tests.proofs.workers.feed.Goals as goal

pub returns-clause-of : goal.returns-clause-of
returns-clause-of g c =
    let list = c.in_ok-list.field-0 in
    subst (All (IsOf c.args.shapes.now c.args.group)) (sym (c.new-list.ensures ∙ whole c.args.shapes.now c.args.group list c.in_ok-list.ensures.of)) c.in_ok-list.ensures.of

pub returns-clause-few : goal.returns-clause-few
returns-clause-few g c =
    let list = c.in_ok-list.field-0 in
    omega (arith, ap length (c.new-list.ensures ∙ whole c.args.shapes.now c.args.group list c.in_ok-list.ensures.of), c.in_ok-list.ensures.few)

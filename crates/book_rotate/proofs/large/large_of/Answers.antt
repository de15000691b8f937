use Rattle.std.proofs.Common.{◌≡◌, ◌∙◌, All, ap, subst, get_or, length, arith}
use Rattle.std.proofs.lemmas.List.{take_all}
use Rattle.acq_script.specs.Tasks.{samples_of}
use Rattle.book_rotate.specs.Begin.{HasRoom, IsFirstLargeIn, all_samples}
use Rattle.book_rotate.proofs.Larges.{large_in_list}
use Rattle.book_rotate.proofs.large.large_of.Goals as goal

pub returns-in-Some-clause-large : goal.returns-in-Some-clause-large
returns-in-Some-clause-large c =
    let plan = c.args.script.now.plan in
    let lists = c.args.script.now.lists in
    let i = c.loop-tasks.tasks-index in
    let d = c.tasks-item.result in
    let same = subst (λ ls. d ≡ get_or ls i d) c.as_slice-tasks-items.ensures c.tasks-item.is in
    large_in_list plan lists i d c.in-Some.size (omega (arith, ap length c.as_slice-tasks-items.ensures, c.loop-tasks-test.true)) c.loop-tasks.invariant
    (subst (λ tasks. IsFirstLargeIn plan (samples_of tasks) c.in-Some.size) (c.as_slice.ensures ∙ same) c.in-Some.ensures.large)

pub returns-clause-none : goal.returns-clause-none
returns-clause-none c =
    subst (λ lists. All (HasRoom c.args.script.now.plan) (all_samples lists))
    (take_all c.loop-tasks.tasks-index c.args.script.now.lists (omega (arith, ap length c.as_slice-tasks-items.ensures, c.loop-tasks-test.false)))
    c.loop-tasks.invariant

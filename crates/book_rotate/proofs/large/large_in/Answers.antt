use Rattle.std.proofs.Common.{◌≡◌, ◌+◌, ◌∙◌, suc, All, ap, sym, subst, get_or, take, arith}
use Rattle.std.proofs.lemmas.List.{take_all}
use Rattle.acq_script.specs.Tasks.{samples_of}
use Rattle.book_rotate.specs.Begin.{HasRoom, IsFirstLargeIn}
use Rattle.book_rotate.specs.Part.{task_cost}
use Rattle.book_rotate.proofs.Larges.{large_at, room_for_more}
use Rattle.book_rotate.proofs.large.large_in.Goals as goal

pub returns-then-cost-plan-clause-large : goal.returns-then-cost-plan-clause-large
returns-then-cost-plan-clause-large c =
    let plan = c.args.plan.now in
    let tasks = c.args.tasks.now in
    let i = c.loop-task.task-index in
    let d = c.task-item.result in
    let same : c.task_cost-cost.result ≡ task_cost plan.shapes (get_or tasks i d) = c.task_cost-cost.ensures.cost ∙ ap (task_cost plan.shapes) c.task-item.is in
    subst (IsFirstLargeIn plan (samples_of tasks)) (sym same)
    (large_at plan tasks i d c.loop-task-test.true c.loop-task.invariant (omega (arith, same, c.if-cost-plan.true)))

pub loop-task-preserved : goal.loop-task-preserved
loop-task-preserved c =
    let plan = c.args.plan.now in
    let tasks = c.args.tasks.now in
    let i = c.loop-task.task-index in
    let d = c.task-item.result in
    let same : c.task_cost-cost.result ≡ task_cost plan.shapes (get_or tasks i d) = c.task_cost-cost.ensures.cost ∙ ap (task_cost plan.shapes) c.task-item.is in
    let next : suc i ≡ i + 1 = omega arith in
    subst (λ n. All (HasRoom plan) (samples_of (take n tasks))) next
    (room_for_more plan tasks i d c.loop-task-test.true c.loop-task.invariant (omega (arith, same, c.if-cost-plan.false)))

pub returns-clause-none : goal.returns-clause-none
returns-clause-none c =
    subst (λ tasks. All (HasRoom c.args.plan.now) (samples_of tasks)) (take_all c.loop-task.task-index c.args.tasks.now (omega (arith, c.loop-task-test.false)))
    c.loop-task.invariant

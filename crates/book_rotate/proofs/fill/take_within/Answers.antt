use Rattle.std.proofs.Common.{◌≡◌, ◌∙◌, sym, ap, subst, All, get_or, arith}
use Rattle.acq_script.specs.Plan.{TaskFits}
use Rattle.book_rotate.specs.Part.{task_cost}
use Rattle.book_rotate.proofs.Moves.{moved_cost, moved_share, moved_tasks, next_fits, no_room}
use Rattle.book_rotate.proofs.fill.take_within.Goals as goal

pub task_cost-cost-requires-clause-fits : goal.task_cost-cost-requires-clause-fits
task_cost-cost-requires-clause-fits c =
    let item = c.in-Some.ensures.item in
    next_fits c.args.plan.now c.tasks.share c.in-Some.task.now (subst (All (TaskFits c.args.plan.now)) (sym c.tasks.invariant.tasks) c.requires.fits)
    item.3.0 item.1

pub returns-then-held-cost-clause-full : goal.returns-then-held-cost-clause-full
returns-then-held-cost-clause-full c =
    let item = c.in-Some.ensures.item in
    let costs = c.task_cost-cost.ensures.cost in
    no_room c.args.plan.now.shapes c.tasks.held c.args.limit c.tasks.share.left.items c.in-Some.task.now item.3.0 item.1 c.tasks.invariant.within
    (omega (arith, costs, c.if-held-cost.true))

pub returns-then-held-cost-clause-fair : goal.returns-then-held-cost-clause-fair
returns-then-held-cost-clause-fair c = c.tasks.invariant.fair

pub tasks-preserved : goal.tasks-preserved
tasks-preserved c =
    let plan = c.args.plan.now in
    let moved = c.in_ok-take_next.ensures in
    let same : c.in-Some.task.now ≡ moved.next = c.in-Some.ensures.item.1 ∙ ap (λ l. get_or l 0 c.in-Some.task.now) moved.left_is in
    let cost = moved_cost plan.shapes c.tasks.share c.take_next.new.share moved in
    let costs = c.task_cost-cost.ensures.cost ∙ ap (task_cost plan.shapes) same in
    record {
      tasks = moved_tasks c.tasks.share c.take_next.new.share moved ∙ c.tasks.invariant.tasks;
      cost = omega (arith, c.tasks.invariant.cost, cost, costs);
      more = omega (arith, c.tasks.invariant.more);
      within = omega (arith, c.if-held-cost.false);
      fair = λ old. moved_share plan c.tasks.share c.take_next.new.share moved (c.tasks.invariant.fair old);
    }

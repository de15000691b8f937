use Rattle.std.proofs.Common.{◌≡◌, ◌+◌, ◌*◌, ◌≤◌, ◌<◌, ◌++◌, [], ◌∷◌, ap, length, subst, All, arith, length-append}
use Rattle.std.proofs.lemmas.List.Elements.{All-tail}
use Rattle.mdf_layout.specs.Record.{cost_of}
use Rattle.book_rotate.specs.Part.{IsNextOrNone}
use Rattle.book_rotate.specs.Fill.{ShareFits, tasks_in}
use Rattle.book_rotate.proofs.Fills.{cost_more, fair_more, full_more, limit_next, limit_within, tasks_more}
use Rattle.book_rotate.proofs.fill.take_all.Goals as goal

pub overflow_add-limit : goal.overflow_add-limit
overflow_add-limit c =
    let plan = c.args.plan.now in
    let limit = c.loop-share.limit in
    let step = c.args.step in
    let room = subst (λ shares. limit + step * length shares ≤ plan.session + step) c.in-Some.ensures.steps.0 c.loop-share.invariant.limit in
    omega (arith, limit_within limit step (length c.next.new.self.rest.items) plan.session room, c.requires.step, c.requires.plan.limits.session_high)

-- one source more
pub loop-share-preserved : goal.loop-share-preserved
loop-share-preserved c =
    let plan = c.args.plan.now in
    let so_far = c.loop-share.invariant in
    let old = c.in-Some.share in
    let new = c.take_within.new.share in
    let rest = c.loop-share.share-iterator.rest.items in
    let later = c.next.new.self.rest.items in
    let before = c.loop-share.filled.items in
    let after = c.push_reserved.new.self.items in
    let steps : rest ≡ old ∷ later = c.in-Some.ensures.steps.0 in
    let grown : after ≡ before ++ new ∷ [] = c.push_reserved.ensures.items in
    let took = c.in_ok-cost.ensures in
    let held = c.loop-share.cost in
    let cost = c.in_ok-cost.cost in
    let limit = c.loop-share.limit in
    let step = c.args.step in
    let room = subst (λ shares. limit + step * length shares ≤ plan.session + step) steps so_far.limit in
    record {
      tasks = tasks_more plan before after later rest old new steps grown (tasks_in c.args.filling.shares.items) took.tasks so_far.tasks;
      cost = cost_more plan before after later rest old new steps grown held cost took.cost so_far.cost;
      room = omega (arith, so_far.room, ap length steps, ap length grown, length-append before (new ∷ []), c.push_reserved.ensures.capacity);
      fits = All-tail (ShareFits plan) old later (subst (All (ShareFits plan)) steps so_far.fits);
      held = omega (arith, took.within);
      limit = limit_next limit step (length later) plan.session room;
      within = omega (arith, took.within, limit_within limit step (length later) plan.session room);
      full = λ at_session no_step.
          let before_full = so_far.full at_session no_step in (
            omega (arith, before_full.0, no_step),
            full_more plan before after later rest old new steps grown held cost took.more before_full.1
                (subst (λ most. IsNextOrNone (λ sample. most < cost + cost_of plan.shapes sample) new.left.items) before_full.0 took.full),
          );
      fair = λ asked.
          let before_fair = so_far.fair asked in
          fair_more plan before after later rest old new steps grown held cost limit step took.within took.cost took.full took.fair before_fair.0 before_fair.1;
    }

pub returns-clause-fair : goal.returns-clause-fair
returns-clause-fair c = λ asked. (c.loop-share.invariant.fair asked).0

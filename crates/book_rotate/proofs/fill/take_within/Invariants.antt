use Rattle.std.proofs.Common.{◌≡◌, ◌+◌, ◌≤◌, length}
use Rattle.book_rotate.specs.Part.{tasks_cost}
use Rattle.book_rotate.specs.Fill.{HasShare, tasks_of}
use Rattle.book_rotate.proofs.fill.take_within.Given as goal

-- what was moved is behind what the part had, and what it costs is held
abbrev pub invariant-tasks : goal.invariant-tasks
invariant-tasks l = record {
  tasks : tasks_of l.share ≡ tasks_of l.initial.share;
  cost : l.held + tasks_cost l.plan.shapes l.initial.share.part.items ≡ l.initial.held + tasks_cost l.plan.shapes l.share.part.items;
  more : l.initial.held ≤ l.held;
  within : l.held ≤ l.limit;
  fair : HasShare l.plan l.initial.share → HasShare l.plan l.share;
}

-- fewer tasks are left
abbrev pub decreases-tasks : goal.decreases-tasks
decreases-tasks l = length l.share.left.items

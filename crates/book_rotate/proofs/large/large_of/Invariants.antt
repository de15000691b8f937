use Rattle.std.proofs.Common.{All, take}
use Rattle.book_rotate.specs.Begin.{HasRoom, all_samples}
use Rattle.book_rotate.proofs.large.large_of.Given as goal

-- a session has room for each sample so far
abbrev pub invariant-loop-tasks : goal.invariant-loop-tasks
invariant-loop-tasks l = All (HasRoom l.script.plan) (all_samples (take l.tasks-index l.script.lists))

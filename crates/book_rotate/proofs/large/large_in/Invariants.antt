use Rattle.std.proofs.Common.{All, take}
use Rattle.acq_script.specs.Tasks.{samples_of}
use Rattle.book_rotate.specs.Begin.{HasRoom}
use Rattle.book_rotate.proofs.large.large_in.Given as goal

-- a session has room for each sample so far
abbrev pub invariant-loop-task : goal.invariant-loop-task
invariant-loop-task l = All (HasRoom l.plan) (samples_of (take l.task-index l.tasks))

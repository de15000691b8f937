use Rattle.std.proofs.Common.{◌≡◌, All, None, length}
use Rattle.acq_run.proofs.audience.without_readers.Given as goal

-- so many were made
abbrev pub invariant-loop : goal.invariant-loop
invariant-loop l = record {
  count : length l.made.items ≡ l.counter;
  made : All (λ watcher. watcher ≡ record { reader = None; told = 0; flushes = 0 }) l.made.items;
}

use Rattle.std.proofs.Common.{◌≡◌, ◌++◌, Some, map}
use Rattle.acq_run.proofs.audience.with_readers.Given as goal

-- the readers so far have a watcher
abbrev pub invariant-loop-reader : goal.invariant-loop-reader
invariant-loop-reader l = record {
  parts : l.yielded ++ l.reader-iterator.rest.items ≡ l.fn.readers.items;
  made : l.made.items ≡ map (λ reader. record { reader = Some reader; told = 0; flushes = 0 }) l.yielded;
}

use Rattle.std.proofs.Common.{◌≡◌, length, All}
use Rattle.book_shared_tests.specs.Lists.{IsOf}
use Rattle.book_shared_tests.proofs.workers.list.Given as goal

abbrev pub invariant-loop-number : goal.invariant-loop-number
invariant-loop-number g l = All (IsOf l.fn.shapes l.fn.group) l.list × (length l.list ≡ l.number-index)

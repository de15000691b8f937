use Rattle.std.proofs.Common.{◌≤◌, length}
use Rattle.book_shared.proofs.Beginning.{IsFilled}
use Rattle.book_shared.proofs.opening.table_of.Given as goal

abbrev pub invariant-loop-group : goal.invariant-loop-group
invariant-loop-group l = (l.group ≤ length l.owners) × IsFilled l.table l.owners l.group

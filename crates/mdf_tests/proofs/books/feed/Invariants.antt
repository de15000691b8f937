use Rattle.std.proofs.Common.{◌≡◌, [], ◌∷◌}
use Rattle.mdf_tests.proofs.books.feed.Given as goal

abbrev pub invariant-loop-task : goal.invariant-loop-task
invariant-loop-task g l = l.book.terms.layouts ≡ l.shape ∷ []

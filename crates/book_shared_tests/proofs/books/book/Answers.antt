use Rattle.book_shared_tests.proofs.Begins.{two_groups}
use Rattle.book_shared_tests.proofs.books.book.Goals as goal

pub begin-requires-clause-admissible : goal.begin-requires-clause-admissible
begin-requires-clause-admissible g c = two_groups c.args.shapes c.requires

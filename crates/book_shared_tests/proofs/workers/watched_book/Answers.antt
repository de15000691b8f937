use Rattle.book_shared_tests.proofs.Begins.{two_groups}
use Rattle.book_shared_tests.proofs.workers.watched_book.Goals as goal

pub begin-requires-2-clause-admissible : goal.begin-requires-2-clause-admissible
begin-requires-2-clause-admissible g c = two_groups c.args.shapes c.requires

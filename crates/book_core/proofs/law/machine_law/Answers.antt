use Rattle.book_core.proofs.Going.{ordered_all, goes_begun, held_begun, whole_begun}
use Rattle.book_core.proofs.law.machine_law.Goals as goal

pub returns-clause-ordered : goal.returns-clause-ordered
returns-clause-ordered c = ordered_all

pub returns-clause-grows : goal.returns-clause-grows
returns-clause-grows c = goes_begun

pub returns-clause-stays : goal.returns-clause-stays
returns-clause-stays c = held_begun

pub returns-clause-whole : goal.returns-clause-whole
returns-clause-whole c = whole_begun

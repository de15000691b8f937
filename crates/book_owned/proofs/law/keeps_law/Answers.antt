use Rattle.book_owned.proofs.Keeping.{keeps_longer, keeps_fewer, kept_of, keeps_of, throughs_of}
use Rattle.book_owned.proofs.law.keeps_law.Goals as goal

pub returns-clause-longer : goal.returns-clause-longer
returns-clause-longer c = keeps_longer

pub returns-clause-fewer : goal.returns-clause-fewer
returns-clause-fewer c = keeps_fewer

pub returns-clause-book : goal.returns-clause-book
returns-clause-book c = λ terms disk history marks. (
  λ kept. (keeps_of terms disk history marks kept, throughs_of terms disk history marks kept, kept.pending),
  λ parts. kept_of terms disk history marks parts.0 parts.1 parts.2,
)

use Rattle.std.proofs.Common.{rules}
use mathlib.Core.Option.{none}
use Rattle.book_shared.specs.Fixed.{basis_of}
use Rattle.book_shared.proofs.Keeps.{exchanges}
use Rattle.book_shared.proofs.shared.SharedBook.take_calm.Goals as goal

pub compare_exchange-requires : goal.compare_exchange-requires
compare_exchange-requires g c = (
  search rules,
  search rules,
  exchanges g.D.Disk (basis_of g.D.Disk c.self.inside.table.shared.key) _ _ _ c.args.word none c.requires.even c.requires.low c.requires.may.some_source c.requires.may.tells,
)

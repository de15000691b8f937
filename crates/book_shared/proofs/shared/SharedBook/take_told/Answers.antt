use Rattle.std.proofs.Common.{rules}
use mathlib.Core.Option.{some}
use Rattle.book_shared.specs.Fixed.{basis_of}
use Rattle.book_shared.specs.declared.half.Half.TheVariants.{Told}
use Rattle.book_shared.proofs.Keeps.{exchanges}
use Rattle.book_shared.proofs.shared.SharedBook.take_told.Goals as goal

pub compare_exchange_with-found-requires : goal.compare_exchange_with-found-requires
compare_exchange_with-found-requires g c = (
  search rules,
  search rules,
  exchanges g.D.Disk (basis_of g.D.Disk c.self.inside.table.shared.key) _ _ _ c.args.word (some (Told c.args.answer)) c.requires.even c.requires.low c.requires.may.some_source
      c.requires.may.tells,
)

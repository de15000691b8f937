use Rattle.std.proofs.Common.{rules}
use Rattle.book_shared.specs.Fixed.{basis_of}
use Rattle.book_shared.proofs.Keeps.{looks}
use Rattle.book_shared.proofs.shared.SharedBook.look.Goals as goal

pub load-requires : goal.load-requires
load-requires g c = (search rules, search rules, looks g.D.Disk (basis_of g.D.Disk c.self.inside.table.shared.key) _ _ _)

use Rattle.std.proofs.Common.{rules}
use Rattle.book_shared.specs.Fixed.{basis_of}
use Rattle.book_shared.proofs.Devices.{back_out}
use Rattle.book_shared.proofs.shared.SharedBook.bring_out.Goals as goal

pub load-requires : goal.load-requires
load-requires g c = (search rules, search rules, back_out g.D.Disk (basis_of g.D.Disk c.self.inside.table.shared.key) _ _ _ c.requires.handed)

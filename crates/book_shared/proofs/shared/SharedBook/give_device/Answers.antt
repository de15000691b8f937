use Rattle.std.proofs.Common.{rules}
use Rattle.book_shared.specs.Fixed.{basis_of}
use Rattle.book_shared.proofs.Devices.{device_gives}
use Rattle.book_shared.proofs.shared.SharedBook.give_device.Goals as goal

pub store-requires : goal.store-requires
store-requires g c = (search rules, search rules, device_gives g.D.Disk (basis_of g.D.Disk c.self.inside.table.shared.key) _ _ _ c.requires.at_rest)

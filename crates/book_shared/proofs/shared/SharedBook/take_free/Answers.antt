use Rattle.std.proofs.Common.{rules, refl}
use Rattle.std.specs.Prelude.{None}
use mathlib.Core.Option.{none}
use Rattle.book_shared.specs.Fixed.{basis_of}
use Rattle.book_shared.proofs.Devices.{device_exchanges}
use Rattle.book_shared.proofs.shared.SharedBook.take_free.Goals as goal

pub compare_exchange-requires : goal.compare_exchange-requires
compare_exchange-requires g c = (
  search rules,
  search rules,
  device_exchanges g.D.Disk (basis_of g.D.Disk c.self.inside.table.shared.key) _ _ c.args.seat.now.me none None refl c.requires.may.empty.no_device c.requires.may.some_source,
)

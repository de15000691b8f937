use Rattle.std.proofs.Common.{rules, ap, [], ◌∷◌, ◌++◌, ◌+◌}
use Rattle.std.specs.Prelude.{Some}
use mathlib.Core.Option.{some}
use Rattle.mdf_layout.specs.declared.sample.Sample.{Sample}
use Rattle.book_shared.specs.Fixed.{basis_of}
use Rattle.book_shared.specs.declared.half.Half.TheVariants.{Due}
use Rattle.book_shared.proofs.Devices.{device_exchanges, takes_as}
use Rattle.book_shared.proofs.shared.SharedBook.take_due.Goals as goal

pub compare_exchange_with-found-requires : goal.compare_exchange_with-found-requires
compare_exchange_with-found-requires g c =
    let v = c.args.seat.now.me.0 in (
      search rules,
      search rules,
      device_exchanges g.D.Disk (basis_of g.D.Disk c.self.inside.table.shared.key) _ _ c.args.seat.now.me
          (some (Due c.of.result)) (Some c.args.sample.now)
          (ap (λ (s : Sample). record v { rounds = v.rounds + 1; due = v.due ++ s ∷ [] }) c.of.ensures)
          c.requires.may.empty.no_device c.requires.may.some_source,
    )

pub returns-clause-takes : goal.returns-clause-takes
returns-clause-takes g c =
    let v = c.args.seat.now.me.0 in
    takes_as 2 c.args.seat.now.me c.compare_exchange_with-found.new.seat.me c.compare_exchange_with-found.result
    (some (Due c.of.result)) (Some c.args.sample.now)
    (ap (λ (s : Sample). record v { rounds = v.rounds + 1; due = v.due ++ s ∷ [] }) c.of.ensures) c.compare_exchange_with-found.ensures.2

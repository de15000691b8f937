use Rattle.std.proofs.Common.{ap, rules}
use Rattle.atomic_table.specs.Table.{step}
use mathlib.Core.Option.{none}
use Rattle.book_shared.specs.Fixed.{basis_of}
use Rattle.book_shared.specs.Plays.{Here}
use Rattle.book_shared.proofs.Devices.{back_in_turned, brought_in}
use Rattle.book_shared.proofs.shared.SharedBook.bring_in.Goals as goal

pub load-requires : goal.load-requires
load-requires g c =
    let held = c.requires.back in (
      search rules,
      search rules,
      back_in_turned g.D.Disk (basis_of g.D.Disk c.self.inside.table.shared.key) _ _ c.args.seat.now.me
          c.turn.new.self.me held.0 held.1 held.2 c.turn.ensures.2 held.3 held.4 held.5 held.6 held.7,
    )

pub returns-clause-back_in : goal.returns-clause-back_in
returns-clause-back_in g c =
    brought_in (step c.self.inside.table.shared.table_id.slots 1 0 0 none) c.args.seat.now.me c.turn.new.self.me
    c.load.new.seat.me c.load.result c.turn.ensures.2 c.load.ensures.2

pub returns-clause-counts : goal.returns-clause-counts
returns-clause-counts g c = record {
  turns_are =
      let held = c.requires.back in
      ap (λ (x : Here g.row.D.Denot g.row.V.Denot). x.0.turns)
      (brought_in (step c.self.inside.table.shared.table_id.slots 1 0 0 none) c.args.seat.now.me c.turn.new.self.me
      c.load.new.seat.me c.load.result c.turn.ensures.2 c.load.ensures.2 held.0 held.1 held.3);
  due_is =
      let held = c.requires.back in
      ap (λ (x : Here g.row.D.Denot g.row.V.Denot). x.0.due)
      (brought_in (step c.self.inside.table.shared.table_id.slots 1 0 0 none) c.args.seat.now.me c.turn.new.self.me
      c.load.new.seat.me c.load.result c.turn.ensures.2 c.load.ensures.2 held.0 held.1 held.3);
}

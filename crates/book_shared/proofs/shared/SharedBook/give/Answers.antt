use Rattle.std.proofs.Common.{rules, true, false, subst}
use Rattle.book_shared.specs.Plays.{Holds}
use Rattle.book_shared.specs.Fixed.{basis_of}
use Rattle.book_shared.proofs.Stores.{stores_front}
use Rattle.book_shared.proofs.shared.SharedBook.give.Goals as goal

pub store-requires : goal.store-requires
store-requires g c =
    let held = c.requires.returns in (
      search rules,
      search rules,
      stores_front g.D.Disk (basis_of g.D.Disk c.self.inside.table.shared.key) _ _ true _ c.args.word held.0
          held.1 c.requires.turn.word_is c.requires.low
          (subst (λ asked. Holds asked c.args.seat.now.me.0 held.0) c.if-asked.true held.2),
    )

pub store-requires-else-asked : goal.store-requires-else-asked
store-requires-else-asked g c =
    let held = c.requires.returns in (
      search rules,
      search rules,
      stores_front g.D.Disk (basis_of g.D.Disk c.self.inside.table.shared.key) _ _ false _ c.args.word held.0
          held.1 c.requires.turn.word_is c.requires.low
          (subst (λ asked. Holds asked c.args.seat.now.me.0 held.0) c.if-asked.false held.2),
    )

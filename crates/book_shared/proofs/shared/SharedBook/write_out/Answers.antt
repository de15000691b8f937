use Rattle.std.proofs.Common.{rules, ap, ◌∙◌, ◌∷◌}
use Rattle.atomic_table.specs.Table.{rest}
use Rattle.book_shared.specs.Turns.{WritesOut}
use Rattle.book_shared.specs.declared.half.Half.TheVariants.{TheBack}
use Rattle.book_shared.proofs.Takings.{writes_on}
use Rattle.book_shared.proofs.shared.SharedBook.write_out.Goals as goal

pub slot_mut-requires : goal.slot_mut-requires
slot_mut-requires g c = (search rules, (TheBack c.requires.back.0, c.requires.back.1))

pub returns : goal.returns
returns g c = record {
  writes =
      writes_on c.args.seat.now c.in-TheBack.back c.write.new.self
      (λ old new. WritesOut g.D.Disk old new c.args.through c.args.block c.write.result)
      (c.slot_mut.ensures.value ∙ ap (λ slot. (1, slot) ∷ rest c.args.seat.now.me.1) c.in-TheBack.is)
      record { answers = c.write.ensures.answer; terms = c.write.ensures.terms; keeps = c.write.ensures.keeps };
}

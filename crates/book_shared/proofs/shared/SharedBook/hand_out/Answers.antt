use Rattle.std.proofs.Common.{rules, ap, ◌∙◌, ◌∷◌}
use Rattle.atomic_table.specs.Table.{rest}
use Rattle.book_owned.specs.FrontHalf.{HandTells}
use Rattle.book_shared.specs.declared.half.Half.TheVariants.{TheFront}
use Rattle.book_shared.proofs.Takings.{works_on}
use Rattle.book_shared.proofs.shared.SharedBook.hand_out.Goals as goal

pub slot_mut-requires : goal.slot_mut-requires
slot_mut-requires g c = (search rules, (TheFront c.requires.front.0, c.requires.front.1))

pub returns : goal.returns
returns g c = record {
  works =
      works_on c.args.seat.now c.in-TheFront.front c.hand_over.new.self (λ old new. HandTells old new c.hand_over.result)
      (c.slot_mut.ensures.value ∙ ap (λ slot. (0, slot) ∷ rest c.args.seat.now.me.1) c.in-TheFront.is) c.hand_over.ensures.tells;
}

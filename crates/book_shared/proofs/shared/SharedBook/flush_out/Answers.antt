use Rattle.std.proofs.Common.{rules, ap, length, ◌∙◌, ◌∷◌}
use Rattle.std.specs.Prelude.{unwrap_or}
use Rattle.atomic_table.specs.Table.{rest}
use Rattle.book_shared.specs.Told.{FlushesNow}
use Rattle.book_shared.specs.declared.half.Half.TheVariants.{TheFront}
use Rattle.book_shared.proofs.Takings.{works_on}
use Rattle.book_shared.proofs.shared.SharedBook.flush_out.Goals as goal

pub slot_mut-requires : goal.slot_mut-requires
slot_mut-requires g c = (search rules, (TheFront c.requires.front.0, c.requires.front.1))

pub returns : goal.returns
returns g c = record {
  works =
      works_on c.args.seat.now c.in-TheFront.front c.flush_in.new.front
      (λ old new. FlushesNow g.V.Shown old new (unwrap_or c.args.through (length old.history)) c.flush_in.result)
      (c.slot_mut.ensures.value ∙ ap (λ slot. (0, slot) ∷ rest c.args.seat.now.me.1) c.in-TheFront.is) c.flush_in.ensures.flushes;
}

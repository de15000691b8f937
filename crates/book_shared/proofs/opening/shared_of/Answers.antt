use Rattle.std.proofs.Common.{◌∙◌}
use Rattle.book_shared.specs.declared.half.Half.TheVariants.{TheFront, TheBack}
use Rattle.book_shared.proofs.Beginning.{in_slots}
use Rattle.book_shared.proofs.opening.shared_of.Goals as goal

pub halves_of-requires : goal.halves_of-requires
halves_of-requires g c = record {
  halves = (
    c.args.front,
    c.args.back,
    c.in-Err.ensures.err
        ∙ in_slots c.in-Ok.slots.items c.push_reserved.new.self.items c.push_reserved-2.new.self.items (TheFront c.args.front) (TheBack c.args.back)
        c.in-Ok.ensures.items c.push_reserved.ensures.items c.push_reserved-2.ensures.items,
  );
}

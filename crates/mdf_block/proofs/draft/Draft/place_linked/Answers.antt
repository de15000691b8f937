use Rattle.std.proofs.Common.{ℕ, List, length, refl, ap, arith}
use Rattle.mdf_block.specs.Draft.{linked}
use Rattle.mdf_block.proofs.Laid.{laid_push, linked_small}
use Rattle.mdf_block.proofs.draft.Draft.place_linked.Goals as goal

pub invariant_of-self-2 : goal.invariant_of-self-2
invariant_of-self-2 c =
    let inside = c.self.inside in
    rw (c.in_ok-push.ensures.items, c.room_of-room.ensures) (
      laid_push 64 inside.items.items inside.end _ c.self.invariant.0 refl,
      linked_small inside.end (linked c.args.kind c.args.links.items c.args.body) (c.if-not-may_go_on.ensures.0 refl)
          (omega (arith, c.if-not-are_few-2.ensures.0 refl, c.len-else-not-are_few.ensures))
          (omega (arith, c.if-not-is_short.ensures.0 refl, ap (λ (bytes : List ℕ). length bytes) c.as_slice.ensures)),
    )

use Rattle.std.proofs.Common.{◌∙◌}
use Rattle.book_rotate.proofs.Fills.{script_fits}
use Rattle.book_rotate.proofs.Parts.{left_of, part_of, script_of}
use Rattle.book_rotate.proofs.rotation.Rotation.next_part.Goals as goal

pub fill-requires-clause-fits : goal.fill-requires-clause-fits
fill-requires-clause-fits c =
    script_fits c.self.inside.plan _ c.in_ok-filling.filling.shares.items c.in_ok-filling.ensures.tasks c.self.invariant.script_is

pub invariant_of-result : goal.invariant_of-result
invariant_of-result c =
    left_of c.self.inside.plan _ c.in_ok-filled.filled.shares.items (c.in_ok-filled.ensures.tasks ∙ c.in_ok-filling.ensures.tasks) c.self.invariant.script_is _
    c.in_ok-parts.ensures.left c.self.invariant.room

pub returns-clause-part : goal.returns-clause-part
returns-clause-part c =
    let filled = c.in_ok-filled.ensures in
    part_of c.self.inside.plan _ c.in_ok-filled.filled.shares.items (filled.tasks ∙ c.in_ok-filling.ensures.tasks) c.self.invariant.script_is c.args.self c.in_ok-part.part
    c.in_ok-parts.parts _ c.self.view_is c.in_ok-part.ensures c.in_ok-parts.ensures.parts c.in_ok-parts.ensures.left filled.within filled.full filled.fair

pub returns-clause-script : goal.returns-clause-script
returns-clause-script c =
    script_of c.self.inside.plan _ c.in_ok-filled.filled.shares.items (c.in_ok-filled.ensures.tasks ∙ c.in_ok-filling.ensures.tasks) c.self.invariant.script_is c.in_ok-part.part
    c.in_ok-parts.parts c.in_ok-part.ensures c.in_ok-parts.ensures.parts

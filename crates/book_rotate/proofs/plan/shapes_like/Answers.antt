use Rattle.std.proofs.Common.{◌≡◌, ◌++◌, ◌∷◌, [], ◌∙◌, Some, ap, get_or, sym, take}
use Rattle.std.specs.Prelude.{slice_get}
use Rattle.std.proofs.lemmas.List.{take_more}
use Rattle.std.proofs.lemmas.Option.{get_or_from_slice_get, slice_get_within}
use Rattle.book_rotate.proofs.plan.shapes_like.Goals as goal

-- one copy more
pub loop-group-preserved : goal.loop-group-preserved
loop-group-preserved c =
    let shapes = c.args.shapes.now in
    let i = c.loop-group.group in
    let shape = c.in-Some.shape.now in
    let copy = c.in_ok-shape_like.field-0 in
    let there : slice_get shapes i ≡ Some shape = sym c.in-Some.ensures in
    let same : copy ≡ get_or shapes i shape = c.in_ok-shape_like.ensures ∙ sym (get_or_from_slice_get shapes i shape shape there) in
    c.in_ok-push.ensures.ok ∙ ap (λ copies. copies ++ copy ∷ []) c.loop-group.invariant ∙ ap (λ one. take i shapes ++ one ∷ []) same
    ∙ sym (take_more shapes i shape (slice_get_within shapes i shape there))

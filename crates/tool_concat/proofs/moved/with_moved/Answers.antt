use Rattle.std.proofs.Common.{◌+◌, ◌++◌, [], ℕ, List, refl, sym, ◌∙◌, ap, subst, add-one, append-nil, append_assoc}
use Rattle.tool_concat.specs.Moved.{AreMoved, IsMoved}
use Rattle.tool_concat.proofs.Apart.{offsets_placed}
use Rattle.tool_concat.proofs.moved.with_moved.Goals as goal

pub loop-i-init : goal.loop-i-init
unfolding AreMoved
loop-i-init c = ([], sym (append-nil c.args.before), refl)

pub add_moved-requires-clause-placed : goal.add_moved-requires-clause-placed
add_moved-requires-clause-placed c = offsets_placed c.args.shape.now c.fields-fields.ensures.ruled

pub loop-i-preserved : goal.loop-i-preserved
unfolding AreMoved
loop-i-preserved c =
    let layout = c.args.shape.now in
    let streams = c.args.streams.now in
    let others = c.args.others.now in
    let i = c.loop-i.i in
    let so_far = c.loop-i.invariant in
    let one = c.in_ok-add_moved.ensures in
    let moved = so_far.0 ++ one.0 in
    let are : AreMoved layout streams others (i + 1) moved =
    subst (λ (n : ℕ). AreMoved layout streams others n moved) (sym (add-one i)) (
      so_far.0,
      one.0,
      refl,
      so_far.2,
      subst (λ (bytes : List ℕ). IsMoved layout streams bytes one.0) c.record_in-bytes.ensures.bytes one.2,
    ) in (
      moved,
      one.1 ∙ ap (λ (bytes : List ℕ). bytes ++ one.0) so_far.1 ∙ append_assoc c.args.before so_far.0 one.0,
      are,
    )

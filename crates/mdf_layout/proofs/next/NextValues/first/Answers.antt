use Rattle.std.proofs.Common.{◌∙◌, ◌∷◌, ap, arith, length, [], length-append}
use Rattle.std.specs.Prelude.{slice_get}
use Rattle.std.proofs.lemmas.Option.{slice_get_within}
use Rattle.mdf_layout.specs.Behind.{first_id}
use Rattle.mdf_layout.specs.Next.{Next}
use Rattle.mdf_layout.proofs.Nexts.{first_more, first_id_more, offsets-count}
use Rattle.mdf_layout.proofs.next.NextValues.first.Goals as goal

pub loop-group-preserved : goal.loop-group-preserved
loop-group-preserved c =
    let layouts = c.args.shapes.now in
    let k = c.loop-group.group in
    let layout = c.at.result.now in
    let known = c.at.ensures in
    let next = c.in_ok-next.next in
    let offsets_are = c.in_ok-next.ensures.offsets in
    let is = ap {B = Next} (λ i. record { id = i; offsets = next.offsets }) (c.in_ok-next.ensures.id ∙ c.loop-group.invariant.id_is)
    ∙ ap {B = Next} (λ os. record { id = first_id layouts k; offsets = os }) offsets_are in
    let items = c.in_ok-push.ensures.items in
    record {
      count = omega (arith, ap length items, length-append c.loop-group.groups.items (next ∷ []), c.loop-group.invariant.count);
      id_is = omega (
        arith,
        c.loop-group.invariant.id_is,
        first_id_more layouts k layout known,
        c.len-id.ensures,
        ap (λ n. length n.offsets) c.next.view_is,
        ap length offsets_are,
        offsets-count layout.rows 0 [],
      );
      each = λ g l below there. ap (λ xs. slice_get xs g) items
          ∙ first_more layouts k layout c.loop-group.groups.items next known c.loop-group.invariant.count c.loop-group.invariant.each is g l below there;
    }

pub returns : goal.returns
returns c = record {
  each = λ group layout known.
      c.loop-group.invariant.each group layout (omega (arith, slice_get_within c.args.shapes.now group layout known, c.loop-group-test.false, c.len-group-end.ensures)) known;
}

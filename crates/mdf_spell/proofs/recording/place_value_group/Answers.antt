use Rattle.std.proofs.Common.{◌≡◌, ◌+◌, List, [], ◌∷◌, ◌++◌, length, refl, ◌∙◌, ap, arith}
use Rattle.std.proofs.lemmas.Result.{on_ok_weaker}
use Rattle.mdf_format.specs.declared.kind.Kind.TheVariants.{Cg}
use Rattle.mdf_block.specs.declared.link.Link.{Link}
use Rattle.mdf_block.specs.declared.link.Link.TheVariants as links
use Rattle.mdf_block.specs.Draft.{Placed}
use Rattle.mdf_tree.specs.Group.{next_if, group_body}
use Rattle.mdf_spell.specs.Recording.{values_row}
use Rattle.mdf_tree.proofs.Placing.{linked_is}
use Rattle.mdf_spell.proofs.Numbered.{value_group_is}
use Rattle.mdf_spell.proofs.recording.place_value_group.Goals as goal

pub returns : goal.returns
returns c =
    let w = c.args.draft.now in
    let next = next_if c.args.more (length w + 1) in
    let past : c.in_ok-past.past ≡ length w + 1 = omega (arith, c.in_ok-past.ensures.sum.0, c.in_ok-next_number.ensures.number.0) in
    let named = next ∷ links.Nothing ∷ links.Nothing ∷ links.Nothing ∷ links.Nothing ∷ links.Nothing ∷ [] in
    let are : ◌≡◌ {A = List Link} c.in_ok-links.links.items named = c.in_ok-links.ensures.items ∙ rw (c.next_if.ensures, past) refl in
    on_ok_weaker c.place_linked.result
    (λ placed. placed
    ∙ ap (λ (b : Placed). w ++ b ∷ []) (linked_is Cg c.in_ok-links.links.items named c.in_ok-body.body (group_body (values_row c.args.id)) are c.in_ok-body.ensures)
    ∙ ap (λ (blocks : List Placed). w ++ blocks) (value_group_is (length w) c.args.id next))
    c.place_linked.ensures.ok

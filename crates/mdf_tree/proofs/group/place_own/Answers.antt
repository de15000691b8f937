use Rattle.std.proofs.Common.{◌≡◌, List, [], ◌∷◌, ◌++◌, length, ◌∙◌, ap}
use Rattle.std.proofs.lemmas.Result.{on_ok_weaker}
use Rattle.mdf_format.specs.declared.kind.Kind.TheVariants.{Cg}
use Rattle.mdf_block.specs.declared.link.Link.{Link}
use Rattle.mdf_block.specs.Draft.{Placed}
use Rattle.mdf_tree.specs.Group.{next_if, past_group, group_own, group_body}
use Rattle.mdf_tree.specs.Places.{counted_row}
use Rattle.mdf_tree.proofs.Placing.{linked_is, next_some, group_links}
use Rattle.mdf_tree.proofs.group.place_own.Goals as goal

pub returns-clause-placed : goal.returns-clause-placed
returns-clause-placed c =
    let w = c.args.draft.now in
    let row = c.args.row.now in
    let own = group_own (length w) (next_if c.args.more (past_group (length w) row)) (counted_row c.args.counted row) in
    let first = c.next_if-2.ensures ∙ next_some c.is_empty.result c.in_ok-at.at.channels row.channels c.is_empty.ensures in
    let links : ◌≡◌ {A = List Link} c.in_ok-links.links.items own.links =
    c.in_ok-links.ensures.items
    ∙ rw (c.next_if.ensures, c.note_link.ensures, c.source_link.ensures, c.note_link-2.ensures)
    (group_links (length w) c.in_ok-n.n c.args.more c.next_if-2.result row c.in_ok-at.at c.in_ok-n.ensures.number.0 c.in_ok-at.ensures.places first) in
    on_ok_weaker c.place_linked.result
    (λ placed. placed
    ∙ ap (λ (b : Placed). w ++ b ∷ []) (linked_is Cg c.in_ok-links.links.items own.links c.in_ok-body.body (group_body (counted_row c.args.counted row)) links c.in_ok-body.ensures.body))
    c.place_linked.ensures.ok

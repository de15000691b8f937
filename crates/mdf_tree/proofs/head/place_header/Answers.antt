use Rattle.std.proofs.Common.{◌≡◌, List, [], ◌∷◌, ◌++◌, ◌∙◌, ap}
use Rattle.std.proofs.lemmas.Result.{on_ok_weaker}
use Rattle.mdf_format.specs.declared.kind.Kind.TheVariants.{Hd}
use Rattle.mdf_block.specs.declared.link.Link.{Link}
use Rattle.mdf_block.specs.Draft.{Placed}
use Rattle.mdf_tree.specs.Head.{head_body, header_block}
use Rattle.mdf_tree.proofs.Placing.{linked_is}
use Rattle.mdf_tree.proofs.head.place_header.Goals as goal

pub returns-clause-ok : goal.returns-clause-ok
returns-clause-ok c =
    let w = c.args.draft.now in
    let own = header_block c.args.comment c.args.entries c.args.groups c.args.head.now in
    let links : ◌≡◌ {A = List Link} c.in_ok-links.links.items own.links = c.in_ok-links.ensures.items ∙ rw c.note_link.ensures in
    on_ok_weaker c.place_linked.result
    (λ placed. placed ∙ ap (λ (b : Placed). w ++ b ∷ []) (linked_is Hd c.in_ok-links.links.items own.links c.in_ok-body.body (head_body c.args.head.now) links c.in_ok-body.ensures))
    c.place_linked.ensures.ok

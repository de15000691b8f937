use Rattle.std.proofs.Common.{◌≡◌, ℕ, List, [], ◌∷◌, ◌++◌, length, ◌∙◌, ap}
use Rattle.std.proofs.lemmas.Result.{on_ok_weaker}
use Rattle.mdf_format.specs.declared.kind.Kind.TheVariants.{Cc}
use Rattle.mdf_block.specs.declared.link.Link.{Link}
use Rattle.mdf_block.specs.Draft.{Placed}
use Rattle.mdf_tree.specs.Conv.{conv_body, conv_links, conv_own, conv_blocks}
use Rattle.mdf_tree.proofs.Placing.{linked_is}
use Rattle.mdf_tree.proofs.conv.place_own.Goals as goal

pub returns : goal.returns
returns c =
    let w = c.args.draft.now in
    let conv = c.args.conv.now in
    let inner = conv_blocks c.args.levels in
    let own = conv_own inner (length w) conv in
    let links : ◌≡◌ {A = List Link} c.in_ok-links.links.items own.links =
    c.in_ok-links.ensures ∙ ap (λ (n : ℕ). conv_links inner n conv) c.in_ok-next_number.ensures.number.0 in
    on_ok_weaker c.place_linked.result
    (λ placed. placed ∙ ap (λ (b : Placed). w ++ b ∷ []) (linked_is Cc c.in_ok-links.links.items own.links c.in_ok-body.body (conv_body conv) links c.in_ok-body.ensures))
    c.place_linked.ensures.ok

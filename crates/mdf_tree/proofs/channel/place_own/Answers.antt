use Rattle.std.proofs.Common.{◌≡◌, List, [], ◌∷◌, ◌++◌, length, ◌∙◌, ap}
use Rattle.std.proofs.lemmas.Result.{on_ok_weaker}
use Rattle.mdf_format.specs.declared.kind.Kind.TheVariants.{Cn}
use Rattle.mdf_block.specs.declared.link.Link.{Link}
use Rattle.mdf_block.specs.Draft.{Placed}
use Rattle.mdf_tree.specs.Group.{next_if, past_channel, channel_links, channel_body}
use Rattle.mdf_tree.proofs.Placing.{linked_is, own_links}
use Rattle.mdf_tree.proofs.channel.place_own.Goals as goal

pub returns-clause-placed : goal.returns-clause-placed
returns-clause-placed c =
    let w = c.args.draft.now in
    let row = c.args.row.now in
    let named = channel_links (length w) (next_if c.args.more (past_channel (length w) row)) c.args.values row in
    let links : ◌≡◌ {A = List Link} c.in_ok-links.links.items named =
    c.in_ok-links.ensures.items
    ∙ rw (c.next_if.ensures, c.note_link.ensures, c.source_link.ensures, c.conv_link.ensures, c.note_link-2.ensures, c.note_link-3.ensures)
    (own_links (length w) c.in_ok-n.n c.args.more c.args.values row c.in_ok-at.at c.in_ok-n.ensures.number.0 c.in_ok-at.ensures.places) in
    on_ok_weaker c.place_linked.result
    (λ placed. placed ∙ ap (λ (b : Placed). w ++ b ∷ []) (linked_is Cn c.in_ok-links.links.items named c.in_ok-body.body (channel_body row) links c.in_ok-body.ensures.body))
    c.place_linked.ensures.ok

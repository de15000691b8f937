use Rattle.std.proofs.Common.{◌≡◌, List, [], ◌∷◌, ◌++◌, length, refl, ◌∙◌, ap}
use Rattle.std.proofs.lemmas.Result.{on_ok_weaker}
use Rattle.mdf_format.specs.declared.kind.Kind.TheVariants.{Fh}
use Rattle.mdf_block.specs.declared.link.Link.{Link}
use Rattle.mdf_block.specs.Draft.{Placed}
use Rattle.mdf_tree.specs.Group.{next_if}
use Rattle.mdf_tree.specs.Head.{entry_body, entry_block, past_entry}
use Rattle.mdf_tree.proofs.Placing.{linked_is}
use Rattle.mdf_tree.proofs.head.place_own.Goals as goal

pub returns-clause-ok : goal.returns-clause-ok
returns-clause-ok c =
    let w = c.args.draft.now in
    let entry = c.args.entry.now in
    let own = entry_block (length w) (next_if c.args.more (past_entry (length w) entry)) entry in
    let links : ◌≡◌ {A = List Link} c.in_ok-links.links.items own.links =
    c.in_ok-links.ensures.items ∙ rw (c.next_if.ensures, c.note_link.ensures, c.note_count.ensures.count, c.in_ok-n.ensures.number.0) refl in
    on_ok_weaker c.place_linked.result
    (λ placed. placed ∙ ap (λ (b : Placed). w ++ b ∷ []) (linked_is Fh c.in_ok-links.links.items own.links c.in_ok-body.body (entry_body entry) links c.in_ok-body.ensures))
    c.place_linked.ensures.ok

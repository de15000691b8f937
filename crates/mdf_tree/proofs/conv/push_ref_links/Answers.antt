use Rattle.std.proofs.Common.{◌≡◌, ◌+◌, ◌++◌, [], ◌∷◌, List, drop, sym, ◌∙◌, ap}
use Rattle.mdf_block.specs.declared.link.Link.{Link}
use Rattle.mdf_block.proofs.Rests.{rest_is}
use Rattle.mdf_conv.specs.declared.row.Ref.{Ref}
use Rattle.mdf_tree.specs.Conv.{ref_link, refs_links, conv_blocks}
use Rattle.mdf_tree.proofs.Placing.{links_step, links_done}
use Rattle.mdf_tree.proofs.conv.push_ref_links.Goals as goal

pub loop-found-preserved : goal.loop-found-preserved
loop-found-preserved c =
    let refs = c.args.refs.now in
    let k = c.loop-found.found-index in
    let found = c.found-item.result in
    let front = c.loop-found.links.items in
    let cut = rest_is refs k found c.loop-found-test.true c.found-item.is in
    let pushed : c.push.new.self.items ≡ front ++ ref_link c.loop-found.n found ∷ [] =
    c.in_ok-push.ensures.items ∙ ap (λ (link : Link). front ++ link ∷ []) c.ref_link.ensures in
    links_step c.args.levels c.loop-found.n c.in_ok-n.n c.in_ok-ref_count.field-0 found (drop (k + 1) refs) front c.push.new.self.items
    pushed c.in_ok-n.ensures.sum.0 c.in_ok-ref_count.ensures.count
    ∙ ap (λ (left : List Ref). front ++ refs_links (conv_blocks c.args.levels) c.loop-found.n left) (sym cut)
    ∙ c.loop-found.invariant

pub returns : goal.returns
returns c =
    links_done (conv_blocks c.args.levels) c.loop-found.n c.loop-found.links.items c.args.refs.now c.loop-found.found-index c.loop-found-test.false
    ∙ c.loop-found.invariant

use Rattle.std.proofs.Common.{◌≡◌, ◌+◌, ◌++◌, [], ◌∷◌, List, drop, slice_index_or, sym, ◌∙◌, ap}
use Rattle.mdf_block.specs.declared.link.Link.{Link}
use Rattle.mdf_block.specs.declared.link.Link.TheVariants as links
use Rattle.mdf_spell.specs.Values.{stream_link, with_streams}
use Rattle.mdf_spell.proofs.Lists.{none_follows, cut_at}
use Rattle.mdf_spell.proofs.Links.{stream_step, no_streams}
use Rattle.mdf_spell.proofs.names.with_streams.Goals as goal

pub loop-name-preserved : goal.loop-name-preserved
loop-name-preserved c =
    let names = c.args.names.now in
    let k = c.loop-name.name-index in
    let name = slice_index_or names k links.Nothing in
    let front = c.loop-name.links.items in
    let cut = cut_at names k links.Nothing c.loop-name-test.true in
    let pushed : c.push.new.self.items ≡ front ++ stream_link c.loop-name.at name ∷ [] =
    c.in_ok-push.ensures.items ∙ ap (λ (link : Link). front ++ link ∷ []) c.stream_link.ensures in
    stream_step c.loop-name.at c.in_ok-at.at name (drop (k + 1) names) front c.push.new.self.items pushed c.in_ok-at.ensures
    ∙ ap (λ (left : List Link). front ++ with_streams c.loop-name.at left) (sym cut)
    ∙ c.loop-name.invariant

pub returns : goal.returns
returns c =
    none_follows c.loop-name.links.items (with_streams c.loop-name.at) c.args.names.now c.loop-name.name-index (no_streams c.loop-name.at) c.loop-name-test.false
    ∙ c.loop-name.invariant

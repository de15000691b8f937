use Rattle.std.proofs.Common.{length, set, ◌∙◌, ap, arith}
use Rattle.mdf_block.specs.declared.item.Item.{Item}
use Rattle.mdf_block.specs.Draft.{room_of}
use Rattle.mdf_block.specs.Item.{placed_of}
use Rattle.mdf_block.proofs.Laid.{has_item, has_link, map-set-link, laid_set, room_of-set}
use Rattle.mdf_block.proofs.work.set_link.Goals as goal

pub index_mut-requires : goal.index_mut-requires
index_mut-requires c =
    omega (arith, c.args.items.now.ok.0, has_item c.args.items.now.items c.args.from c.args.k c.requires)

pub index_mut-requires-2 : goal.index_mut-requires-2
index_mut-requires-2 c =
    let item = c.index_mut.result.now in
    let has = has_link c.args.items.now.items c.args.from c.args.k item c.requires in
    omega (arith, item.links.ok.0, has, ap (λ (i : Item). length i.links.items) c.index_mut.ensures.value)

pub returns-clause-blocks : goal.returns-clause-blocks
returns-clause-blocks c =
    let items = c.args.items.now.items in
    let item = c.index_mut.result.now in
    map-set-link items c.args.from c.args.k c.args.link _ item (has_item items c.args.from c.args.k c.requires)
    (ap (λ (i : Item). record { kind = i.kind; links = set i.links.items c.args.k c.args.link; body = i.body }) c.index_mut.ensures.value)

pub returns-clause-laid : goal.returns-clause-laid
returns-clause-laid c = λ end laid.
    let items = c.args.items.now.items in
    let item = c.index_mut.result.now in
    laid_set 64 items end c.args.from _ item laid (ap (λ (i : Item). i.at) c.index_mut.ensures.value)
    (room_of-set (placed_of item) c.args.k c.args.link ∙ ap (λ (i : Item). room_of (placed_of i)) c.index_mut.ensures.value)

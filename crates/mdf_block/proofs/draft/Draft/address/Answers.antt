use Rattle.std.proofs.Common.{List, length, ◌∙◌, ap, arith}
use Rattle.std.proofs.lemmas.List.{length-map}
use Rattle.mdf_block.specs.declared.item.Item.{Item}
use Rattle.mdf_block.specs.Draft.{Placed, address_of}
use Rattle.mdf_block.specs.Item.{placed_of}
use Rattle.mdf_block.proofs.Laid.{laid_at}
use Rattle.mdf_block.proofs.draft.Draft.address.Goals as goal

pub returns : goal.returns
returns c =
    let items = c.self.inside.items.items in
    let view = c.self.view_is in
    ap (λ (item : Item). item.at) c.index.ensures
    ∙ laid_at 64 items c.self.inside.end c.args.n c.index.result.now c.self.invariant.0
    (omega (arith, ap (λ (blocks : List Placed). length blocks) view, length-map items placed_of))
    ∙ ap (λ (blocks : List Placed). address_of blocks c.args.n) view

use Rattle.std.proofs.Common.{List, map, ◌∙◌, ap, arith}
use Rattle.std.proofs.lemmas.List.{take_all}
use Rattle.mdf_block.specs.declared.item.Item.{Item}
use Rattle.mdf_block.specs.Item.{at_of}
use Rattle.mdf_block.proofs.Laid.{addresses}
use Rattle.mdf_block.proofs.places.places_of.Goals as goal

pub returns : goal.returns
returns c =
    let items = c.args.items.now in
    addresses items _ c.requires
    (c.loop-item.invariant ∙ ap (λ (all : List Item). map at_of all) (take_all c.loop-item.item-index items (omega (arith, c.loop-item-test.false))))

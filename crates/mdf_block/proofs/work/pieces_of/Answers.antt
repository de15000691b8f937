use Rattle.std.proofs.Common.{◌∷◌, ◌++◌, List, ℕ, [], map, sym, ◌∙◌, ap, subst, arith, append_assoc}
use Rattle.std.specs.Vec.Iter.{into_iter_items}
use Rattle.mdf_block.specs.declared.item.Item.{Item}
use Rattle.mdf_block.specs.Draft.{block_bytes}
use Rattle.mdf_block.specs.Item.{placed_of}
use Rattle.mdf_block.specs.Places.{AreAddresses}
use Rattle.mdf_block.proofs.Laid.{item_small, block_more}
use Rattle.mdf_block.proofs.work.pieces_of.Goals as goal

pub push_block-requires : goal.push_block-requires
push_block-requires c =
    let parted = ap (λ (left : List Item). c.loop-item.yielded ++ left) (sym c.in-Some.ensures.steps.0) ∙ c.loop-item.invariant.left in
    omega (
      arith,
      c.requires.small,
      item_small c.args.items.items c.args.end c.loop-item.yielded (into_iter_items c.next.new.self) c.in-Some.item c.requires.laid parted,
    )

pub loop-item-preserved : goal.loop-item-preserved
loop-item-preserved c =
    let items = c.args.items.items in
    let blocks = map placed_of items in
    let addresses = subst (λ (all : List Item). AreAddresses (map placed_of all) c.in_ok-places.places) c.as_slice.ensures.value c.in_ok-places.ensures in
    record {
      so_far = c.in_ok-push_block.ensures blocks addresses
          ∙ ap (λ (file : List ℕ). file ++ block_bytes blocks (placed_of c.in-Some.item)) c.loop-item.invariant.so_far
          ∙ block_more blocks c.in_ok-file.file c.loop-item.yielded c.in-Some.item;
      left = append_assoc c.loop-item.yielded (c.in-Some.item ∷ []) (into_iter_items c.next.new.self)
          ∙ ap (λ (left : List Item). c.loop-item.yielded ++ left) (sym c.in-Some.ensures.steps.0) ∙ c.loop-item.invariant.left;
    }

use Rattle.std.proofs.Common.{◌≡◌, ◌++◌, map}
use Rattle.std.specs.List.{flat_map}
use Rattle.std.specs.Vec.Iter.{into_iter_items}
use Rattle.mdf_block.specs.Draft.{block_bytes}
use Rattle.mdf_block.specs.Item.{placed_of}
use Rattle.mdf_block.proofs.work.pieces_of.Given as goal

-- the blocks so far are written, and those that are left are still to come
abbrev pub invariant-loop-item : goal.invariant-loop-item
invariant-loop-item l = record {
  so_far : l.file ≡ l.initial.file ++ flat_map (block_bytes (map placed_of l.fn.items.items)) (map placed_of l.yielded);
  left : l.yielded ++ into_iter_items l.item-iterator ≡ l.fn.items.items;
}

use Rattle.std.proofs.Common.{◌≡◌, take, map}
use Rattle.mdf_block.specs.Item.{at_of}
use Rattle.mdf_block.proofs.places.places_of.Given as goal

abbrev pub invariant-loop-item : goal.invariant-loop-item
invariant-loop-item l = l.starts.items ≡ map at_of (take l.item-index l.items)

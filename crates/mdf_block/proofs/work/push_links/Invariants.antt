use Rattle.std.proofs.Common.{◌≡◌, ◌++◌, List, take}
use Rattle.std.specs.List.{flat_map}
use Rattle.mdf_block.specs.Draft.{Placed, link_bytes}
use Rattle.mdf_block.specs.Places.{AreAddresses}
use Rattle.mdf_block.proofs.work.push_links.Given as goal

abbrev pub invariant-loop-link : goal.invariant-loop-link
invariant-loop-link l =
    (blocks : List Placed) → AreAddresses blocks l.places → l.file ≡ l.initial.file ++ flat_map (link_bytes blocks) (take l.link-index l.links)

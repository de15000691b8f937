-- Where the blocks of a draft stand, and what stands in front of their bodies.
use Rattle.std.specs.Prelude.{ℕ, ◌≡◌, List, ◌++◌, length, get_or, replicate}
use Rattle.std.specs.List.{flat_map}
use Rattle.std.specs.Int.{to_le_bytes, w64}
use Rattle.mdf_format.specs.Block.{name_of}
use Rattle.mdf_block.specs.Draft.{Placed, size_of, end_of, address_of, link_bytes}
use Rattle.mdf_block.specs.declared.places.Places.{Places}

-- the address of each block, and the end of all in the place of one that is not there
pub record AreAddresses (blocks : List Placed) (places : Places) : Type 0 where
  pub starts : (n : ℕ) → get_or places.starts.items n places.end ≡ address_of blocks n
  pub ends : places.end ≡ end_of blocks

-- the header and the links of a block, as they are written among these blocks
abbrev pub front_bytes : List Placed → Placed → List ℕ
front_bytes blocks b =
    name_of b.kind ++ replicate 4 0 ++ to_le_bytes w64 (size_of b) ++ to_le_bytes w64 (length b.links)
    ++ flat_map (link_bytes blocks) b.links

-- The items of a draft: its blocks with their addresses.
use Rattle.std.specs.Prelude.{ℕ, ◌≡◌, ◌+◌, List, [], ◌∷◌}
use Rattle.mdf_block.specs.declared.item.Item.{Item}
use Rattle.mdf_block.specs.Draft.{Placed, room_of}

-- an item without its address
abbrev pub placed_of : Item → Placed
placed_of item = record { kind = item.kind; links = item.links.items; body = item.body }

-- its address
abbrev pub at_of : Item → ℕ
at_of item = item.at

-- the items stand one behind the other, from an address on up to another
unfoldable pub AreLaidOut : ℕ → List Item → ℕ → Type 0
AreLaidOut at [] end = end ≡ at
AreLaidOut at (item ∷ items) end = (item.at ≡ at) × AreLaidOut (at + room_of (placed_of item)) items end

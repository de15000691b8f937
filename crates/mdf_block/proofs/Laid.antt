-- The items of a draft stand one behind the other.
use Rattle.std.proofs.Common.{◌≡◌, ◌+◌, ◌<◌, ◌≤◌, ◌^◌, ℕ, zero, suc, List, [], ◌∷◌, ◌++◌, length, get_or, take, set, map, refl, sym, ◌∙◌, ap, subst, arith, length-set}
use Rattle.std.proofs.lemmas.List.{take_all, map-append, flat_map_more}
use Rattle.std.proofs.lemmas.List.Sums.{sum_by-cons, sum_by-append}
use Rattle.std.specs.Prelude.{sum_by}
use Rattle.std.specs.List.{flat_map}
use Rattle.mdf_block.specs.declared.item.Item.{Item}
use Rattle.mdf_block.specs.declared.link.Link.{Link}
use Rattle.mdf_format.specs.Number.{aligned}
use Rattle.mdf_format.specs.Block.{header_size}
use Rattle.mdf_block.specs.Draft.{Placed, size_of, room_of, block_bytes, HasLink, with_link}
use Rattle.mdf_block.specs.Item.{placed_of, at_of, AreLaidOut}
use Rattle.mdf_block.specs.Places.{AreAddresses}
use Rattle.mdf_block.specs.declared.places.Places.{Places}
use Rattle.mdf_block.proofs.Laying.{le_room}

pub laid_end : (at : ℕ) (items : List Item) (end : ℕ) → AreLaidOut at items end → end ≡ at + sum_by room_of (map placed_of items)
unfolding AreLaidOut
laid_end at [] end laid = omega (arith, laid)
laid_end at (item ∷ items) end laid =
    omega (arith, laid_end (at + room_of (placed_of item)) items end laid.1, sum_by-cons room_of (placed_of item) (map placed_of items))

pub laid_none : (at : ℕ) → AreLaidOut at [] at
unfolding AreLaidOut
laid_none at = refl

pub laid_push : (at : ℕ) (items : List Item) (end : ℕ) (x : Item) → AreLaidOut at items end → x.at ≡ end
    → AreLaidOut at (items ++ x ∷ []) (end + room_of (placed_of x))
unfolding AreLaidOut
laid_push at [] end x laid is = (is ∙ laid, ap (λ (n : ℕ). n + room_of (placed_of x)) laid)
laid_push at (item ∷ items) end x laid is = (laid.0, laid_push (at + room_of (placed_of item)) items end x laid.1 is)

pub laid_at : (at : ℕ) (items : List Item) (end : ℕ) (n : ℕ) (d : Item) → AreLaidOut at items end → n < length items
    → (get_or items n d).at ≡ at + sum_by room_of (take n (map placed_of items))
unfolding AreLaidOut
laid_at at [] end n d laid below = absurd (omega arith)
laid_at at (item ∷ items) end zero d laid below = omega (arith, laid.0)
laid_at at (item ∷ items) end (suc n) d laid below =
    omega (
      arith,
      laid_at (at + room_of (placed_of item)) items end n d laid.1 (omega (arith, below)),
      sum_by-cons room_of (placed_of item) (take n (map placed_of items)),
    )

-- the places of the items, with the end of all in the place of one that is not there
start_laid : (at : ℕ) (items : List Item) (end n : ℕ) → AreLaidOut at items end
    → get_or (map at_of items) n end ≡ at + sum_by room_of (take n (map placed_of items))
unfolding AreLaidOut
start_laid at [] end n laid = omega (arith, laid, ap (sum_by room_of) (take_all n [] (omega arith)))
start_laid at (item ∷ items) end zero laid = omega (arith, laid.0)
start_laid at (item ∷ items) end (suc n) laid =
    omega (
      arith,
      start_laid (at + room_of (placed_of item)) items end n laid.1,
      sum_by-cons room_of (placed_of item) (take n (map placed_of items)),
    )

pub addresses : (items : List Item) (places : Places) → AreLaidOut 64 items places.end → places.starts.items ≡ map at_of items
    → AreAddresses (map placed_of items) places
addresses items places laid are = record {
  starts = λ n. ap (λ (starts : List ℕ). get_or starts n places.end) are ∙ start_laid 64 items places.end n laid;
  ends = laid_end 64 items places.end laid;
}

-- an item with other links, and as many of them, stands where it stood
pub laid_set : (at : ℕ) (items : List Item) (end n : ℕ) (y d : Item) → AreLaidOut at items end → y.at ≡ (get_or items n d).at
    → room_of (placed_of y) ≡ room_of (placed_of (get_or items n d)) → AreLaidOut at (set items n y) end
unfolding AreLaidOut
laid_set at [] end n y d laid same room = laid
laid_set at (item ∷ items) end zero y d laid same room =
    (same ∙ laid.0, subst (λ (size : ℕ). AreLaidOut (at + size) items end) (sym room) laid.1)
laid_set at (item ∷ items) end (suc n) y d laid same room =
    (laid.0, laid_set (at + room_of (placed_of item)) items end n y d laid.1 same room)

-- it is the block with the link set
pub map-set-link : (items : List Item) (n k : ℕ) (link : Link) (y d : Item) → n < length items
    → placed_of y ≡ record (placed_of (get_or items n d)) { links = set (get_or items n d).links.items k link }
    → map placed_of (set items n y) ≡ with_link (map placed_of items) n k link
map-set-link [] n k link y d below is = absurd (omega arith)
map-set-link (item ∷ items) zero k link y d below is = ap (λ (b : Placed). b ∷ map placed_of items) is
map-set-link (item ∷ items) (suc n) k link y d below is =
    ap (λ (bs : List Placed). placed_of item ∷ bs) (map-set-link items n k link y d (omega (arith, below)) is)

-- what a link of the blocks says of the items
pub has_item : (items : List Item) (n k : ℕ) → HasLink (map placed_of items) n k → n < length items
has_item [] n k has = absurd has
has_item (item ∷ items) zero k has = omega arith
has_item (item ∷ items) (suc n) k has = omega (arith, has_item items n k has)

pub has_link : (items : List Item) (n k : ℕ) (d : Item) → HasLink (map placed_of items) n k → k < length (get_or items n d).links.items
has_link [] n k d has = absurd has
has_link (item ∷ items) zero k d has = has
has_link (item ∷ items) (suc n) k d has = has_link items n k d has

-- other links, and as many of them, take as much room
pub room_of-set : (b : Placed) (k : ℕ) (link : Link) → room_of (record b { links = set b.links k link }) ≡ room_of b
room_of-set b k link = ap (λ (n : ℕ). aligned (header_size n + length b.body)) (length-set b.links k link)

-- no block is longer than all of them
pub item_small : (items : List Item) (end : ℕ) (front rest : List Item) (x : Item) → AreLaidOut 64 items end → front ++ x ∷ rest ≡ items
    → size_of (placed_of x) ≤ end
item_small items end front rest x laid split =
    omega (
      arith,
      laid_end 64 items end laid,
      ap (λ (all : List Item). sum_by room_of (map placed_of all)) split,
      ap (sum_by room_of) (map-append placed_of front (x ∷ rest)),
      sum_by-append room_of (map placed_of front) (map placed_of (x ∷ rest)),
      sum_by-cons room_of (placed_of x) (map placed_of rest),
      le_room (placed_of x),
    )

-- one block more is written
pub block_more : (all : List Placed) (old : List ℕ) (items : List Item) (x : Item)
    → old ++ flat_map (block_bytes all) (map placed_of items) ++ block_bytes all (placed_of x)
    ≡ old ++ flat_map (block_bytes all) (map placed_of (items ++ x ∷ []))
block_more all old items x =
    flat_map_more (block_bytes all) old (map placed_of items) (placed_of x)
    ∙ ap (λ (blocks : List Placed). old ++ flat_map (block_bytes all) blocks) (sym (map-append placed_of items (x ∷ [])))

-- there is room for a block that is placed with its links, where no part of it is longer than any memory
pub linked_small : (end : ℕ) (b : Placed) → end ≤ 2 ^ 61 → length b.links < 2 ^ 31 → length b.body ≤ 2 ^ 60
    → end + room_of b < 2 ^ 62
linked_small end b below few short = omega (arith, below, few, short)

-- What blocks hold in all, and what stands before one in the lists that hang in them.
use Rattle.std.proofs.Common.{◌≡◌, ◌+◌, ◌≤◌, ℕ, List, [], ◌∷◌, length, refl, arith}
use Rattle.std.specs.Prelude.{sum_by}
use Rattle.std.proofs.lemmas.List.Sums.{sum_by-cons}
use Rattle.mdf_format.specs.Block.{link_at, links_at, IsBlock}
use Rattle.mdf_format.specs.declared.kind.Kind.{Kind}
use Rattle.mdf_format.specs.declared.kind.Kind.TheVariants.{Dl}
use Rattle.mdf_block.specs.declared.what.What.{What}
use Rattle.mdf_block.specs.Chain.{AreAlong}
use Rattle.mdf_block.specs.Limit.{HoldInAll, HoldsMany, AreBefore}
use Rattle.mdf_block.specs.Truth.{IsPast}

-- blocks that count themselves
pub ones_in_all : (f : List ℕ) (places : List ℕ) → HoldInAll (HoldsMany f []) places (length places)
unfolding HoldInAll HoldsMany
ones_in_all f [] = refl
ones_in_all f (place ∷ places) = (1, length places, refl, ones_in_all f places, omega arith)

-- what is left falls by what the blocks at these places hold
abbrev pub FallsBy : List ℕ → List Kind → ℕ → List ℕ → ℕ → Type 0
FallsBy f kinds before places after = (count : ℕ) × HoldInAll (HoldsMany f kinds) places count × (after + count ≡ before)

pub falls_by_none : (f : List ℕ) (kinds : List Kind) (left : ℕ) → FallsBy f kinds left [] left
unfolding HoldInAll
falls_by_none f kinds left = (0, refl, omega arith)

pub falls_by_more : (f : List ℕ) (kinds : List Kind) (at one before middle after : ℕ) (places : List ℕ) → HoldsMany f kinds at one
    → middle + one ≡ before → FallsBy f kinds middle places after → FallsBy f kinds before (at ∷ places) after
unfolding HoldInAll
falls_by_more f kinds at one before middle after places holds first behind =
    (one + behind.0, (one, behind.0, holds, behind.1, refl), omega (arith, first, behind.2))

-- where so many stand before an address, the limit is passed there
abbrev pub Passes : List ℕ → What → Kind → List Kind → ℕ → ℕ → Type 0
Passes f what kind kinds first most = (at : ℕ) → AreBefore f kind kinds first most at → IsPast f what at

-- from a list to one that hangs in a block of it
pub passes_inside : (f : List ℕ) (what : What) (kind next : Kind) (kinds : List Kind) (first before after owner : ℕ) (places : List ℕ)
    → Passes f what kind (next ∷ kinds) first before → AreAlong f kind first places owner → FallsBy f (next ∷ kinds) before places after
    → IsBlock f owner kind → Passes f what next kinds (link_at f owner 1) after
unfolding AreBefore
passes_inside f what kind next kinds first before after owner places passes along falls block at stand = passes at (record {
  places = places;
  owner = owner;
  before = falls.0;
  inside = after;
  along = along;
  block = block;
  held = falls.1;
  stand = stand;
  many = omega (arith, falls.2);
})

-- a chain of DLBLOCKs has no more of them than they have links
pub lists_below_links : (f : List ℕ) (at : ℕ) (places : List ℕ) (last : ℕ) → AreAlong f Dl at places last
    → length places ≤ sum_by (links_at f) places
unfolding AreAlong
lists_below_links f at [] last along = omega arith
lists_below_links f at (place ∷ places) last along =
    let behind = lists_below_links f (link_at f at 0) places last along.2 in
    let linked : 1 ≤ links_at f place = rw along.0 along.1.linked in
    omega (arith, behind, linked, sum_by-cons (links_at f) place places)

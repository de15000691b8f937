-- How many blocks stand before one, where lists hang in one another, and where lists of data name blocks.
use Rattle.std.specs.Prelude.{ℕ, ◌≡◌, ◌+◌, ◌≤◌, ◌<◌, ◌⊎◌, List, [], ◌∷◌, length, sum_by}
use Rattle.mdf_format.specs.Block.{link_at, links_at, IsBlock, IsChain}
use Rattle.mdf_format.specs.declared.kind.Kind.{Kind}
use Rattle.mdf_format.specs.declared.kind.Kind.TheVariants as kinds
use Rattle.mdf_block.specs.Chain.{AreAlong}

-- the blocks at these places hold so many in all, where each holds as many as is said of it
unfoldable pub HoldInAll : (ℕ → ℕ → Type 0) → List ℕ → ℕ → Type 0
HoldInAll HoldsOne [] count = count ≡ 0
HoldInAll HoldsOne (place ∷ places) count =
    (one : ℕ) × (rest : ℕ) × HoldsOne place one × HoldInAll HoldsOne places rest × (one + rest ≡ count)

-- so many blocks of the last kind hang in a block: its second link begins a list of blocks of the first kind, the second
-- link of each of these one of the next kind; where no kind is named, the block counts itself
unfoldable pub HoldsMany : List ℕ → List Kind → ℕ → ℕ → Type 0
HoldsMany file [] at count = count ≡ 1
HoldsMany file (kind ∷ kinds) at count =
    (places : List ℕ) × IsChain file (link_at file at 1) kind places × HoldInAll (HoldsMany file kinds) places count

-- so many stand before in a list of a kind that begins at an address: those that the blocks before one of them hold, and
-- in that one those that stand before in the list that its second link begins
pub record AreBeforeIn (file : List ℕ) (kind : Kind) (first : ℕ) (HoldsOne BeforeInside : ℕ → ℕ → Type 0) (count : ℕ) : Type 0 where
  pub places : List ℕ
  pub owner : ℕ
  pub before : ℕ
  pub inside : ℕ
  pub along : AreAlong file kind first places owner
  pub block : IsBlock file owner kind
  pub held : HoldInAll HoldsOne places before
  pub stand : BeforeInside (link_at file owner 1) inside
  pub many : before + inside ≡ count

-- so many blocks of the last kind stand before an address, in a list of the first kind that begins at another, and in the
-- lists of the next kinds that hang in it
unfoldable pub AreBefore : List ℕ → Kind → List Kind → ℕ → ℕ → ℕ → Type 0
AreBefore file kind [] first count at = (places : List ℕ) × AreAlong file kind first places at × (length places ≡ count)
AreBefore file kind (next ∷ kinds) first count at =
    AreBeforeIn file kind first (HoldsMany file (next ∷ kinds)) (λ begin inside. AreBefore file next kinds begin inside at) count

-- so many blocks are named before one of the chain of DLBLOCKs from an address on or one of the blocks that they list: each
-- DLBLOCK counts with those that its links after the first name
pub record IsListedBehind (file : List ℕ) (first count at : ℕ) : Type 0 where
  pub lists : List ℕ
  pub list : ℕ
  pub k : ℕ
  pub along : AreAlong file kinds.Dl first lists list
  pub block : IsBlock file list kinds.Dl
  pub is : ((k ≡ 0) × (list ≡ at)) ⊎ ((1 ≤ k) × (k < links_at file list) × (link_at file list k ≡ at))
  pub many : sum_by (links_at file) lists + k ≡ count

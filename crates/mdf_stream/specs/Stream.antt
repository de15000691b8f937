-- The data stream of a link, in the standard's words and in no order of reading.
use Rattle.std.specs.Prelude.{ℕ, zero, suc, ◌≡◌, ◌≢◌, ◌+◌, ◌-◌, ◌≤◌, List, [], ◌∷◌, length}
use Rattle.std.specs.List.{flat_map, AllByRecursion}
use Rattle.mdf_format.specs.Block.{link_at, links_at, body_at, IsBlock, IsChain}
use Rattle.mdf_format.specs.declared.kind.Kind.{Kind}
use Rattle.mdf_format.specs.declared.kind.Kind.TheVariants.{Dl}

-- so many links of the block at an address, from link k on
unfoldable pub links_from : List ℕ → ℕ → ℕ → ℕ → List ℕ
links_from file at k zero = []
links_from file at k (suc count) = link_at file at k ∷ links_from file at (k + 1) count

-- the links after the first
abbrev pub data_links : List ℕ → ℕ → List ℕ
data_links file at = links_from file at 1 (links_at file at - 1)

-- the addresses that a chain of DLBLOCKs lists
abbrev pub listed : List ℕ → List ℕ → List ℕ
listed file lists = flat_map (data_links file) lists

-- The stream of a link to data of a kind: nothing for the link 0; the body of the one block of the kind; or the bodies
-- of the blocks of the kind that the links after the first name, in each DLBLOCK of the chain that begins there.
pub data IsStream (file : List ℕ) (link : ℕ) (kind : Kind) (stream : List ℕ) : Type 0 where
  IsNothing : link ≡ 0 → stream ≡ [] → IsStream file link kind stream
  IsOne : link ≢ 0 → IsBlock file link kind → stream ≡ body_at file link → IsStream file link kind stream
  IsListed :
      (lists : List ℕ) → link ≢ 0 → IsChain file link Dl lists → AllByRecursion (λ place. place ≢ 0) lists
      → AllByRecursion (λ at. IsBlock file at kind) (listed file lists) → stream ≡ flat_map (body_at file) (listed file lists)
      → IsStream file link kind stream

-- a link to data leads to at most 1,048,576 blocks, the DLBLOCKs counted
abbrev pub LeadsToFew : List ℕ → ℕ → Type 0
LeadsToFew file link = (lists : List ℕ) → IsChain file link Dl lists → length lists + length (listed file lists) ≤ 1048576

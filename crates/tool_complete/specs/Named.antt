-- The blocks that a data link names, and the last DTBLOCK among them.
use Rattle.std.specs.Prelude.{ℕ, zero, suc, ◌+◌, ◌-◌, ◌%◌, Bool, ◌&&◌, nat_eq, nat_le, List, [], ◌∷◌, ◌++◌, length, min, max, filter, fold, Ok, Err}
use Rattle.mdf_format.specs.Block.{link_at, links_at, header_size}
use Rattle.mdf_format.specs.declared.kind.Kind.TheVariants.{Dl, Dt}
use Rattle.mdf_block.specs.declared.place.BlockAt.{BlockAt}
use Rattle.mdf_block.specs.Refusal.{Read}
use Rattle.mdf_block.specs.Block.{block, is_named}
use Rattle.mdf_stream.specs.Link.{most_blocks}
use Rattle.mdf_stream.specs.Stream.{links_from}

-- a DLBLOCK lists what its links after the first name, as far as so many blocks may come, itself counted
abbrev pub listed_by : List ℕ → (ℕ → ℕ → List ℕ) → ℕ → Read BlockAt → List ℕ
listed_by file behind left (Ok b) =
    links_from file b.at 1 (min (left - 1) (b.links - 1)) ++ behind (left - b.links) (link_at file b.at 0)
listed_by file behind left (Err refusal) = []

-- the addresses that the DLBLOCKs from an address on list, as far as these stand one behind the other
unfoldable pub listed_from : List ℕ → ℕ → ℕ → ℕ → List ℕ
listed_from file zero left at = []
listed_from file (suc most) left at = listed_by file (listed_from file most) left (block file at Dl)

-- the addresses that a data link names, of so many blocks as it may lead to: its own, and those that DLBLOCKs list
abbrev pub data_names : List ℕ → ℕ → List ℕ
data_names file link = link ∷ listed_from file most_blocks most_blocks link

-- the address that a data link names last
abbrev pub final_name : List ℕ → ℕ → ℕ
final_name file link = fold (λ (last at : ℕ). at) link (listed_from file most_blocks most_blocks link)

-- the header of a DTBLOCK with its links stands at an address, whatever length it says
abbrev pub is_headed : List ℕ → ℕ → Bool
is_headed file at = nat_eq (at % 8) 0 && (is_named file at Dt && nat_le (at + header_size (links_at file at)) (length file))

-- the greatest of these numbers
abbrev pub greatest : List ℕ → ℕ
greatest [] = 0
greatest (n ∷ rest) = max n (greatest rest)

-- the greatest address that a data link names and at which a DTBLOCK is headed, and 0 for none
abbrev pub last_named : List ℕ → ℕ → ℕ
last_named file link = greatest (filter (is_headed file) (data_names file link))

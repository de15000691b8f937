-- What a tool finds that follows list blocks (DLBLOCK) and knows no gate.
use Rattle.std.specs.Prelude.{ℕ, ◌≡◌, List, [], ◌∷◌}
use Rattle.mdf_format.specs.Block.{IsBlock, link_at, body_at}
use Rattle.mdf_format.specs.declared.kind.Kind.TheVariants.{Dl, Dt}

-- List blocks from an address on, up to another: each names by its second link a data block with the next of these data, and by
-- its first link the next list block, or the last address.
unfoldable pub IsListChain : List ℕ → ℕ → List (List ℕ) → ℕ → Type 0
IsListChain file at [] last = last ≡ at
IsListChain file at (data_bytes ∷ rest) last =
    IsBlock file at Dl × IsBlock file (link_at file at 1) Dt × (data_bytes ≡ body_at file (link_at file at 1))
    × IsListChain file (link_at file at 0) rest last

-- A file to be written, as the list of its blocks. A link names a block by its number, so no address stands here.
use Rattle.std.specs.Prelude.{ℕ, zero, suc, ◌≡◌, ◌+◌, ◌-◌, ◌%◌, ◌≤◌, ◌<◌, List, [], ◌∷◌, ◌++◌, length, get_or, take, replicate, set, sum_by}
use Rattle.std.specs.List.{flat_map}
use Rattle.std.specs.Int.{to_le_bytes, w64}
use Rattle.mdf_format.specs.Number.{bytes_at, aligned}
use Rattle.mdf_format.specs.Block.{name_of, least_links, least_body, size_at, links_at, link_at, header_size, body_at, IsBlock}
use Rattle.mdf_format.specs.declared.kind.Kind.{Kind}
use Rattle.mdf_block.specs.declared.link.Link.{Link}
use Rattle.mdf_block.specs.declared.link.Link.TheVariants as links

-- a block that was placed
pub record Placed : Type 0 where
  pub kind : Kind
  pub links : List Link
  pub body : List ℕ

-- a block as it is placed, with its links
abbrev pub linked : Kind → List Link → List ℕ → Placed
linked kind links body = record { kind = kind; links = links; body = body }

-- a block as it is placed, with all links 0
abbrev pub unlinked : Kind → ℕ → List ℕ → Placed
unlinked kind count body = record { kind = kind; links = replicate count links.Nothing; body = body }

-- how long the block is, and how long with its filler
abbrev pub size_of : Placed → ℕ
size_of b = header_size (length b.links) + length b.body

abbrev pub room_of : Placed → ℕ
room_of b = aligned (size_of b)

-- the address behind the blocks and their filler
abbrev pub end_of : List Placed → ℕ
end_of blocks = 64 + sum_by room_of blocks

-- the address of block n
abbrev pub address_of : List Placed → ℕ → ℕ
address_of blocks n = end_of (take n blocks)

-- the number in a link
abbrev pub link_number : List Placed → Link → ℕ
link_number blocks links.Nothing = 0
link_number blocks (links.Block n) = address_of blocks n
link_number blocks links.End = end_of blocks

abbrev pub link_bytes : List Placed → Link → List ℕ
link_bytes blocks link = to_le_bytes w64 (link_number blocks link)

-- how much filler follows a block
abbrev pub filler_of : Placed → ℕ
filler_of b = room_of b - size_of b

-- a block with its filler, as it is written among these blocks
abbrev pub block_bytes : List Placed → Placed → List ℕ
block_bytes blocks b =
    name_of b.kind ++ replicate 4 0 ++ to_le_bytes w64 (size_of b) ++ to_le_bytes w64 (length b.links)
    ++ flat_map (link_bytes blocks) b.links ++ b.body ++ replicate (filler_of b) 0

-- the whole file behind these 64 bytes
abbrev pub written : List ℕ → List Placed → List ℕ
written ident blocks = ident ++ flat_map (block_bytes blocks) blocks

-- the block has such a link
abbrev pub HasLink : List Placed → ℕ → ℕ → Type 0
HasLink [] n k = ⊥
HasLink (b ∷ blocks) zero k = k < length b.links
HasLink (b ∷ blocks) (suc n) k = HasLink blocks n k

-- the blocks with link k of block n set
abbrev pub with_link : List Placed → ℕ → ℕ → Link → List Placed
with_link [] n k link = []
with_link (b ∷ blocks) zero k link = record b { links = set b.links k link } ∷ blocks
with_link (b ∷ blocks) (suc n) k link = b ∷ with_link blocks n k link

-- the block has the least links and the least body of its kind, as a reader asks
pub record IsReadable (b : Placed) : Type 0 where
  pub linked : least_links b.kind ≤ length b.links
  pub filled : least_body b.kind b.body ≤ length b.body

-- the block stands whole at the address, with its links and its body, and nothing but zero bytes as filler
pub record Stands (file : List ℕ) (blocks : List Placed) (at : ℕ) (b : Placed) : Type 0 where
  pub on_eight : at % 8 ≡ 0
  pub named : bytes_at 4 file at ≡ name_of b.kind
  pub size : size_at file at ≡ size_of b
  pub ends : at + room_of b ≤ length file
  pub count : links_at file at ≡ length b.links
  pub link : (k : ℕ) → k < length b.links → link_at file at k ≡ link_number blocks (get_or b.links k links.Nothing)
  pub body : body_at file at ≡ b.body
  pub filler : bytes_at (filler_of b) file (at + size_of b) ≡ replicate (filler_of b) 0
  pub whole : IsReadable b → IsBlock file at b.kind

-- every block stands at its address
abbrev pub AllStand : List ℕ → List Placed → Type 0
AllStand file blocks =
    (front : List Placed) (b : Placed) (rest : List Placed) → blocks ≡ front ++ b ∷ rest → Stands file blocks (end_of front) b

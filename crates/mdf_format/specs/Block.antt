-- The general block of MDF 4: `##` and two letters, 4 reserved bytes, the length of the whole block and the number
-- of its links, each of 8 bytes. Then come the links, 8 bytes each, and then the body.
use Rattle.std.specs.Prelude.{ℕ, ◌≡◌, ◌+◌, ◌-◌, ◌*◌, ◌%◌, ◌≤◌, List, [], ◌∷◌, length, codes}
use Rattle.mdf_format.specs.Number.{le_number, bytes_at}
use Rattle.mdf_format.specs.declared.kind.Kind.{Kind}
use Rattle.mdf_format.specs.declared.kind.Kind.TheVariants.{Hd, Fh, Dg, Cg, Cn, Cc, Si, Tx, Md, Dt, Dl, Sd, At}

-- the first four bytes of a block
abbrev pub name_of : Kind → List ℕ
name_of Hd = codes "##HD"
name_of Fh = codes "##FH"
name_of Dg = codes "##DG"
name_of Cg = codes "##CG"
name_of Cn = codes "##CN"
name_of Cc = codes "##CC"
name_of Si = codes "##SI"
name_of Tx = codes "##TX"
name_of Md = codes "##MD"
name_of Dt = codes "##DT"
name_of Dl = codes "##DL"
name_of Sd = codes "##SD"
name_of At = codes "##AT"

-- how many links a block of this kind has at least
abbrev pub least_links : Kind → ℕ
least_links Hd = 6
least_links Fh = 2
least_links Dg = 4
least_links Cg = 6
least_links Cn = 8
least_links Cc = 4
least_links Si = 3
least_links Tx = 0
least_links Md = 0
least_links Dt = 0
least_links Dl = 1
least_links Sd = 0
least_links At = 4

-- how many bytes this body of a block of this kind has at least; a CCBLOCK's holds the values that it counts
abbrev pub least_body : Kind → List ℕ → ℕ
least_body Hd body = 32
least_body Fh body = 16
least_body Dg body = 8
least_body Cg body = 32
least_body Cn body = 72
least_body Cc body = 24 + 8 * le_number (bytes_at 2 body 6)
least_body Si body = 8
least_body Tx body = 0
least_body Md body = 0
least_body Dt body = 0
least_body Dl body = 0
least_body Sd body = 0
least_body At body = 40

-- the length of the whole block at an address, and the number of its links
abbrev pub size_at : List ℕ → ℕ → ℕ
size_at file at = le_number (bytes_at 8 file (at + 8))

abbrev pub links_at : List ℕ → ℕ → ℕ
links_at file at = le_number (bytes_at 8 file (at + 16))

-- link k of the block at an address, counted from 0
abbrev pub link_at : List ℕ → ℕ → ℕ → ℕ
link_at file at k = le_number (bytes_at 8 file (at + 24 + 8 * k))

-- how long the header of a block with so many links is
abbrev pub header_size : ℕ → ℕ
header_size links = 24 + 8 * links

-- how long the body of the block at an address is, and the body
abbrev pub body_size : List ℕ → ℕ → ℕ
body_size file at = size_at file at - header_size (links_at file at)

abbrev pub body_at : List ℕ → ℕ → List ℕ
body_at file at = bytes_at (body_size file at) file (at + header_size (links_at file at))

-- a block of this kind stands whole at this address
pub record IsBlock (file : List ℕ) (at : ℕ) (kind : Kind) : Type 0 where
  pub on_eight : at % 8 ≡ 0
  pub named : bytes_at 4 file at ≡ name_of kind
  pub headed : header_size (links_at file at) ≤ size_at file at
  pub whole : at + size_at file at ≤ length file
  pub linked : least_links kind ≤ links_at file at
  pub filled : least_body kind (body_at file at) ≤ body_size file at

-- The blocks at these places are the chain along the first links from this address on. A loop has no chain.
unfoldable pub IsChain : List ℕ → ℕ → Kind → List ℕ → Type 0
IsChain file at kind [] = at ≡ 0
IsChain file at kind (place ∷ places) =
    (place ≡ at) × IsBlock file at kind × IsChain file (link_at file at 0) kind places

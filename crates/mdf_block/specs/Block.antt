-- The block at an address of a file, and why there is none.
use Rattle.std.specs.Prelude.{ℕ, ◌≡◌, ◌+◌, ◌%◌, ◌^◌, ◌≤◌, ◌<◌, ◌⊎◌, Bool, true, false, ◌&&◌, ◌||◌, nat_eq, nat_le, IsTrue, if◌then◌else◌, List, [], length, codes, Option, Some, None, Ok, Err}
use Rattle.std.specs.Str.{bytes_eq}
use Rattle.mdf_format.specs.Number.{bytes_at}
use Rattle.mdf_format.specs.Block.{name_of, least_links, least_body, size_at, links_at, header_size, body_size, body_at, IsBlock}
use Rattle.mdf_format.specs.declared.kind.Kind.{Kind}
use Rattle.mdf_format.specs.declared.kind.Kind.TheVariants as kinds
use Rattle.mdf_num.specs.declared.halt.Halt.{Halt}
use Rattle.mdf_num.specs.declared.halt.Halt.TheVariants as halts
use Rattle.mdf_block.specs.declared.place.BlockAt.{BlockAt}
use Rattle.mdf_block.specs.declared.fault.BlockFault.{BlockFault}
use Rattle.mdf_block.specs.declared.fault.BlockFault.TheVariants as faults
use Rattle.mdf_block.specs.Refusal.{Refusal, Bad, Compressed, Read}

-- these four bytes stand at the address
abbrev pub has_name : List ℕ → ℕ → List ℕ → Bool
has_name file at name = bytes_eq (bytes_at 4 file at) name

-- the four bytes at the address are the kind's
abbrev pub is_named : List ℕ → ℕ → Kind → Bool
is_named file at kind = has_name file at (name_of kind)

-- the kind whose four bytes stand at the address
abbrev pub IsKindAt : List ℕ → ℕ → Option Kind → Type 0
IsKindAt file at None = (kind : Kind) → ¬ (bytes_at 4 file at ≡ name_of kind)
IsKindAt file at (Some kind) = bytes_at 4 file at ≡ name_of kind

-- whether a block of the kind stands whole at the address, as a test
abbrev pub is_block : List ℕ → ℕ → Kind → Bool
is_block file at kind =
    nat_eq (at % 8) 0
    && is_named file at kind
    && nat_le (header_size (links_at file at)) (size_at file at)
    && nat_le (at + size_at file at) (length file)
    && nat_le (least_links kind) (links_at file at)
    && nat_le (least_body kind (body_at file at)) (body_size file at)

-- the kinds that hold data, which a file may have compressed
abbrev pub is_data : Kind → Bool
is_data kinds.Dt = true
is_data kinds.Sd = true
is_data kinds.Dl = true
is_data _ = false

-- a DZBLOCK or an HLBLOCK is named where data is wanted
abbrev pub is_compressed : List ℕ → ℕ → Kind → Bool
is_compressed file at kind =
    is_data kind && nat_eq (at % 8) 0 && (has_name file at (codes "##DZ") || has_name file at (codes "##HL"))

pub record IsCompressed (file : List ℕ) (at : ℕ) (kind : Kind) : Type 0 where
  pub is_wanted : IsTrue (is_data kind)
  pub on_eight : at % 8 ≡ 0
  pub named : (bytes_at 4 file at ≡ codes "##DZ") ⊎ (bytes_at 4 file at ≡ codes "##HL")

-- the header of a block of the kind begins at the address
abbrev pub Begins : List ℕ → ℕ → Kind → Type 0
Begins file at kind = (at % 8 ≡ 0) × ((bytes_at 4 file at ≡ name_of kind) × (at + 24 ≤ length file))

-- the block whose header begins at the address lies inside the file, and has the least links of the kind
pub record IsLaid (file : List ℕ) (at : ℕ) (kind : Kind) : Type 0 where
  pub headed : header_size (links_at file at) ≤ size_at file at
  pub whole : at + size_at file at ≤ length file
  pub linked : least_links kind ≤ links_at file at

-- the block that stands at the address, if one of the kind does
abbrev pub the_block : List ℕ → ℕ → Kind → BlockAt
the_block file at kind = record {
  at = at;
  kind = kind;
  links = links_at file at;
  body_at = at + header_size (links_at file at);
  body_len = body_size file at;
}

-- the body of a block
abbrev pub body_of : List ℕ → BlockAt → List ℕ
body_of file b = bytes_at b.body_len file b.body_at

-- what is found where a block of the kind is looked for
unfoldable pub block : List ℕ → ℕ → Kind → Read BlockAt
block file at kind =
    if is_compressed file at kind then Err (Compressed at)
    else (if is_block file at kind then Ok (the_block file at kind) else Err (Bad at kind))

abbrev pub block_refusal : BlockFault → Option Refusal
block_refusal (faults.Bad at want) = Some (Bad at want)
block_refusal (faults.Compressed at) = Some (Compressed at)

-- only a kind that holds data is refused as compressed
abbrev pub IsAboutData : Kind → Halt BlockFault → Type 0
IsAboutData want (halts.Fault (faults.Compressed at)) = IsTrue (is_data want)
IsAboutData want _ = Unit {0}

-- why there is no block
abbrev pub HasNoBlock : List ℕ → ℕ → Kind → BlockFault → Type 0
HasNoBlock file at want (faults.Bad bad kind) =
    (bad ≡ at) × (kind ≡ want) × (¬ IsBlock file at want) × (¬ IsCompressed file at want)
HasNoBlock file at want (faults.Compressed bad) = (bad ≡ at) × IsCompressed file at want

-- the block lies inside so many bytes, header, links and body
pub record IsInside (size : ℕ) (block : BlockAt) : Type 0 where
  pub behind_links : block.at + header_size block.links ≡ block.body_at
  pub ends : block.body_at + block.body_len ≤ size
  pub fits : block.body_at + block.body_len < 2 ^ 64

-- a block that is read has the least links of its kind, and the least bytes of body that do not hang on the body
pub record IsFilled (want : Kind) (block : BlockAt) : Type 0 where
  pub kind : block.kind ≡ want
  pub linked : least_links want ≤ block.links
  pub filled : least_body want [] ≤ block.body_len

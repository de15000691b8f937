-- The parts that a data link leads to: nothing, one block, or the blocks that a chain of DLBLOCKs lists.
use Rattle.std.specs.Prelude.{ℕ, ◌-◌, nat_eq, if◌then◌else◌, List, [], ◌∷◌, Option, Some, None, Ok, Err}
use Rattle.std.specs.List.{flat_map}
use Rattle.mdf_format.specs.Block.{link_at}
use Rattle.mdf_format.specs.declared.kind.Kind.{Kind}
use Rattle.mdf_format.specs.declared.kind.Kind.TheVariants.{Dl}
use Rattle.mdf_block.specs.declared.place.BlockAt.{BlockAt}
use Rattle.mdf_block.specs.declared.what.What.TheVariants as whats
use Rattle.mdf_block.specs.Refusal.{Refusal, Bad, Compressed, TooMany, Read, ◌>>=◌}
use Rattle.mdf_block.specs.Block.{block, is_named}
use Rattle.mdf_block.specs.Chain.{Step, chain, full}
use Rattle.mdf_block.specs.Each.{each}
use Rattle.mdf_stream.specs.declared.part.Part.{Part}
use Rattle.mdf_stream.specs.declared.fault.DataFault.{DataFault}
use Rattle.mdf_stream.specs.declared.fault.DataFault.TheVariants as faults

abbrev pub data_refusal : DataFault → Option Refusal
data_refusal (faults.Bad at want) = Some (Bad at want)
data_refusal (faults.Compressed at) = Some (Compressed at)
data_refusal (faults.TooMany at) = Some (TooMany whats.Block at)
data_refusal faults.Memory = None

-- how many blocks a data link may lead to, the DLBLOCKs counted
abbrev pub most_blocks : ℕ
most_blocks = 1048576

-- a block that was reached is counted
unfoldable pub one_less : ℕ → ℕ → Read ℕ
one_less at left = if nat_eq left 0 then Err (TooMany whats.Block at) else Ok (left - 1)

-- the body of a block
abbrev pub part_of : BlockAt → Part
part_of b = record { at = b.body_at; len = b.body_len }

-- a block of data at an address, and how many more may come
unfoldable pub data_block : List ℕ → Kind → ℕ → ℕ → Read (Part × ℕ)
data_block file want at left = do
  b ← block file at want
  less ← one_less at left
  Ok (part_of b, less)

-- the block of data that link k of a DLBLOCK names
abbrev pub named_block : List ℕ → Kind → ℕ → ℕ → ℕ → Read (Part × ℕ)
named_block file want list k left = data_block file want (link_at file list k) left

-- a DLBLOCK at an address: itself, then the blocks of data that its links after the first name; its other fields are
-- passed over
unfoldable pub data_list : List ℕ → Kind → Step (List Part) ℕ
data_list file want at left = do
  b ← block file at Dl
  less ← one_less at left
  parts ← each (named_block file want b.at) 1 (b.links - 1) less
  Ok (parts.0, link_at file b.at 0, parts.1)

-- the DLBLOCKs from an address on, each with its blocks before the next one
abbrev pub data_lists : List ℕ → Kind → ℕ → Read (List (List Part) × ℕ × ℕ)
data_lists file want at = chain (data_list file want) (full whats.Block Dl file) most_blocks at most_blocks

abbrev pub joined : List (List Part) → List Part
joined lists = flat_map (λ (parts : List Part). parts) lists

-- what a chain of DLBLOCKs lists, as one list
abbrev pub listed_parts : List ℕ → Kind → ℕ → Read (List Part)
listed_parts file want at = data_lists file want at >>= λ lists. Ok (joined lists.0)

-- the one block of data
abbrev pub one_part : List ℕ → Kind → ℕ → Read (List Part)
one_part file want at = block file at want >>= λ b. Ok (part_of b ∷ [])

-- the parts that a data link leads to: none for 0, those of a chain where `##DL` stands, else the one block
unfoldable pub data_parts : List ℕ → Kind → ℕ → Read (List Part)
data_parts file want at =
    if nat_eq at 0 then Ok [] else (if is_named file at Dl then listed_parts file want at else one_part file want at)

-- the kind of the block that a data link names: a DLBLOCK where `##DL` stands, else a block of the kind that is wanted
abbrev pub first_kind : List ℕ → Kind → ℕ → Kind
first_kind file want at = if is_named file at Dl then Dl else want

-- What the refusal of a data link says of the file, whatever kind of data is wanted.
use Rattle.std.specs.Prelude.{ℕ, ◌≡◌, ◌≤◌, ◌<◌, ◌⊎◌, List, IfSome}
use Rattle.mdf_format.specs.Block.{link_at, links_at, IsBlock}
use Rattle.mdf_format.specs.declared.kind.Kind.{Kind}
use Rattle.mdf_format.specs.declared.kind.Kind.TheVariants.{Dl}
use Rattle.mdf_num.specs.declared.halt.Halt.{Halt}
use Rattle.mdf_num.specs.declared.halt.Halt.TheVariants as halts
use Rattle.mdf_block.specs.declared.what.What.TheVariants as whats
use Rattle.mdf_block.specs.Refusal.{Refusal, Bad, Compressed, TooMany}
use Rattle.mdf_block.specs.Block.{IsCompressed}
use Rattle.mdf_block.specs.Chain.{AreAlong}
use Rattle.mdf_block.specs.Limit.{IsListedBehind}
use Rattle.mdf_stream.specs.declared.fault.DataFault.{DataFault}
use Rattle.mdf_stream.specs.Link.{data_refusal, most_blocks}

-- a block that a data link leads to is of the kind that is wanted, or a DLBLOCK
abbrev pub IsLinkedKind : Kind → Kind → Type 0
IsLinkedKind want kind = (kind ≡ want) ⊎ (kind ≡ Dl)

-- a link of the DLBLOCK at an address after its first names another
abbrev pub IsListedBy : List ℕ → ℕ → ℕ → Type 0
IsListedBy file list at = IsBlock file list Dl × ((k : ℕ) × (1 ≤ k) × (k < links_at file list) × (link_at file list k ≡ at))

-- a data link leads to the address: it names it, a DLBLOCK of the chain from it on names it as the next, or one of them
-- lists it
abbrev pub LeadsTo : List ℕ → ℕ → ℕ → Type 0
LeadsTo file link at =
    (lists : List ℕ) × (list : ℕ) × AreAlong file Dl link lists list × ((list ≡ at) ⊎ IsListedBy file list at)

-- the refusal is true of the file: the link leads to the address, and no block of such a kind stands whole there, or
-- compressed data is named there; or one block more stands there, behind as many as a data link may lead to
abbrev pub IsTrueOfLink : List ℕ → Kind → ℕ → Refusal → Type 0
IsTrueOfLink file want link (Bad at kind) = IsLinkedKind want kind × (¬ IsBlock file at kind) × LeadsTo file link at
IsTrueOfLink file want link (Compressed at) = (kind : Kind) × IsLinkedKind want kind × IsCompressed file at kind × LeadsTo file link at
IsTrueOfLink file want link (TooMany whats.Block at) =
    (kind : Kind) × IsLinkedKind want kind × IsBlock file at kind × IsListedBehind file link most_blocks at
IsTrueOfLink file want link _ = ⊥

-- what a reader over a span refuses has the property
abbrev pub IfFault : (Refusal → Type 0) → Halt DataFault → Type 0
IfFault P (halts.Fault fault) = IfSome (data_refusal fault) P
IfFault P halts.Failed = Unit {0}
IfFault P halts.Memory = Unit {0}

-- What a refusal says of the file at the address that it names.
use Rattle.std.specs.Prelude.{ℕ, zero, suc, ◌≡◌, ◌≤◌, ◌<◌, ◌⊎◌, List, [], ◌∷◌, slice_index}
use Rattle.mdf_format.specs.Block.{link_at, links_at, IsBlock, body_at}
use Rattle.mdf_format.specs.Identification.{IsMdf, IsFinalized, HasReadVersion, version_of, standard_flags, custom_flags}
use Rattle.mdf_format.specs.declared.kind.Kind.{Kind}
use Rattle.mdf_format.specs.declared.kind.Kind.TheVariants as kinds
use Rattle.mdf_block.specs.declared.what.What.{What}
use Rattle.mdf_block.specs.declared.what.What.TheVariants as whats
use Rattle.mdf_block.specs.Refusal.{Refusal, NotMdf, Unfinalized, NotRecording, Version, Bad, Compressed, TooMany, Deep, ChannelKind, ChannelType}
use Rattle.mdf_block.specs.Block.{IsCompressed}
use Rattle.mdf_block.specs.Limit.{AreBefore, IsListedBehind}

-- no block of the kind stands whole at the address; a text may stand in either of its two kinds
abbrev pub LacksBlock : List ℕ → ℕ → Kind → Type 0
LacksBlock file at kinds.Tx = (¬ IsBlock file at kinds.Tx) × (¬ IsBlock file at kinds.Md)
LacksBlock file at kind = ¬ IsBlock file at kind

-- a block of the sort that is counted stands whole at the address; samples are counted by their channel group
abbrev pub IsCounted : List ℕ → What → ℕ → Type 0
IsCounted file whats.Fh at = IsBlock file at kinds.Fh
IsCounted file whats.Dg at = IsBlock file at kinds.Dg
IsCounted file whats.Cg at = IsBlock file at kinds.Cg
IsCounted file whats.Cn at = IsBlock file at kinds.Cn
IsCounted file whats.Cc at = IsBlock file at kinds.Cc
IsCounted file whats.Text at = IsBlock file at kinds.Tx ⊎ IsBlock file at kinds.Md
IsCounted file whats.Block at = IsBlock file at kinds.Dl ⊎ (IsBlock file at kinds.Dt ⊎ IsBlock file at kinds.Sd)
IsCounted file whats.Sample at = IsBlock file at kinds.Cg

-- the limit is passed at the address: so many entries of the history, data groups, channel groups or channels stand before
-- it, each of them in the whole of its lists, or so many blocks are named before it in a chain of DLBLOCKs
abbrev pub IsPast : List ℕ → What → ℕ → Type 0
IsPast file whats.Fh at = (first : ℕ) × AreBefore file kinds.Fh [] first 65535 at
IsPast file whats.Dg at = (first : ℕ) × AreBefore file kinds.Dg [] first 65535 at
IsPast file whats.Cg at = (first : ℕ) × AreBefore file kinds.Dg (kinds.Cg ∷ []) first 65535 at
IsPast file whats.Cn at = (first : ℕ) × AreBefore file kinds.Dg (kinds.Cg ∷ kinds.Cn ∷ []) first 1048576 at
IsPast file whats.Block at = (first : ℕ) × IsListedBehind file first 1048576 at
IsPast file _ at = Unit {0}

-- so many conversions lie in one another above the address, each named by a link after the fourth of the one before
unfoldable pub AreOpen : List ℕ → ℕ → ℕ → ℕ → Type 0
AreOpen file zero first at = first ≡ at
AreOpen file (suc count) first at =
    IsBlock file first kinds.Cc × ((k : ℕ) × (4 ≤ k) × (k < links_at file first) × AreOpen file count (link_at file first k) at)

-- a kind of channel that is not read: 4, 5, and those above 6
abbrev pub IsOtherKind : ℕ → Type 0
IsOtherKind kind = (kind ≡ 4) ⊎ ((kind ≡ 5) ⊎ (6 < kind))

-- the refusal is true of the file; those of records and layouts, which name no block, are none that a reader of blocks gives
abbrev pub IsTrueOf : List ℕ → Refusal → Type 0
IsTrueOf file NotMdf = ¬ IsMdf file
IsTrueOf file (Version ver) = (ver ≡ version_of file) × (¬ HasReadVersion file) × IsMdf file
IsTrueOf file (Unfinalized std custom) =
    (std ≡ standard_flags file) × (custom ≡ custom_flags file) × (¬ IsFinalized file) × (IsMdf file × HasReadVersion file)
IsTrueOf file (NotRecording std custom) =
    (std ≡ standard_flags file) × (custom ≡ custom_flags file) × (IsFinalized file ⊎ (¬ (custom ≡ 1))) × (IsMdf file × HasReadVersion file)
IsTrueOf file (Bad at want) = LacksBlock file at want
IsTrueOf file (Compressed at) = (want : Kind) × IsCompressed file at want
IsTrueOf file (TooMany what at) = IsCounted file what at × IsPast file what at
IsTrueOf file (Deep at) = IsBlock file at kinds.Cc × ((first : ℕ) × AreOpen file 4 first at)
IsTrueOf file (ChannelKind at kind) =
    IsBlock file at kinds.Cn × (kind ≡ slice_index (body_at file at) 0) × IsOtherKind kind
IsTrueOf file (ChannelType at value) =
    IsBlock file at kinds.Cn × (value ≡ slice_index (body_at file at) 2) × (14 < value)
IsTrueOf file _ = ⊥

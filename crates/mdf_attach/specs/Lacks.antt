-- Why the attachments of a file are not read.
use Rattle.std.specs.Prelude.{ℕ, ◌≡◌, ◌≢◌, ◌+◌, ◌<◌, ◌≤◌, ◌⊎◌, List, [], ◌∷◌, length, map, sum_by}
use Rattle.std.specs.List.{AllByRecursion}
use Rattle.mdf_format.specs.Block.{link_at, IsBlock}
use Rattle.mdf_format.specs.Identification.{IsMdf, IsFinalized, HasReadVersion, version_of, standard_flags, custom_flags}
use Rattle.mdf_format.specs.declared.kind.Kind.{Kind}
use Rattle.mdf_format.specs.declared.kind.Kind.TheVariants.{Hd, At, Tx, Md}
use Rattle.mdf_block.specs.declared.note.Note.{Note}
use Rattle.mdf_block.specs.Text.{note_size, IsNote}
use Rattle.mdf_block.specs.Chain.{AreAlong}
use Rattle.mdf_attach.specs.declared.attachment.Attachment.{Attachment}
use Rattle.mdf_attach.specs.declared.fault.AttachFault.{AttachFault}
use Rattle.mdf_attach.specs.declared.fault.AttachFault.TheVariants as faults
use Rattle.mdf_attach.specs.Listed.{attachments, IsFirst}
use Rattle.mdf_attach.specs.Stands.{BeginsFinalized, IsAttachment, IsWhole, embedded_size, texts_size, contents_size}

-- the header stands, and these attachments behind it, and this address other than 0 is the link behind them
pub record IsBehind (file : List ℕ) (before : List Attachment) (at : ℕ) : Type 0 where
  pub header : IsBlock file 64 Hd
  pub along : AreAlong file At (link_at file 64 3) (map (λ row. row.at) before) at
  pub each : AllByRecursion (IsAttachment file) before
  pub named : at ≢ 0

-- the same of a whole ATBLOCK that is not one too many
pub record IsNext (file : List ℕ) (before : List Attachment) (at : ℕ) : Type 0 where
  pub behind : IsBehind file before at
  pub whole : IsWhole file at
  pub few : length before < 65535

-- what the links of an ATBLOCK from link k on name
abbrev pub AreTexts : List ℕ → ℕ → ℕ → List Note → Type 0
AreTexts file at k [] = Unit {0}
AreTexts file at k (text ∷ rest) = IsNote file (link_at file at k) text × AreTexts file at (k + 1) rest

-- the address is the link to a text of the ATBLOCK that comes behind these attachments, behind these of its texts
pub record IsTextBehind (file : List ℕ) (before : List Attachment) (earlier : List Note) (at : ℕ) : Type 0 where
  pub owner : ℕ
  pub next : IsNext file before owner
  pub room : contents_size before + embedded_size file owner ≤ 536870912
  pub texts : AreTexts file owner 1 earlier
  pub few : length earlier < 3
  pub link : at ≡ link_at file owner (1 + length earlier)

-- no header stands whole, or no ATBLOCK with its embedded data, or no text
abbrev pub IsMissing : List ℕ → ℕ → Kind → Type 0
IsMissing file at want =
    ((want ≡ Hd) × (at ≡ 64) × (¬ IsBlock file 64 Hd))
    ⊎ (((want ≡ At) × ((before : List Attachment) × IsBehind file before at × (length before ≤ 65535) × (¬ IsWhole file at)))
    ⊎ ((want ≡ Tx) × ((before : List Attachment) × (earlier : List Note) × IsTextBehind file before earlier at)
    × (at ≢ 0) × (¬ IsBlock file at Tx) × (¬ IsBlock file at Md)))

-- one ATBLOCK too many, or one with too many bytes of embedded data
abbrev pub IsPastMost : List ℕ → ℕ → Type 0
IsPastMost file at = (before : List Attachment) × IsBehind file before at × IsWhole file at × (length before ≡ 65535)

abbrev pub IsPastContents : List ℕ → ℕ → Type 0
IsPastContents file at =
    (before : List Attachment) × IsNext file before at × (536870912 < contents_size before + embedded_size file at)

-- a text with too many bytes
abbrev pub IsPastTexts : List ℕ → ℕ → Type 0
IsPastTexts file at =
    (before : List Attachment) × (earlier : List Note) × (text : Note) × IsTextBehind file before earlier at × IsNote file at text
    × (67108864 < texts_size before + sum_by note_size earlier + note_size text)

-- why there are none; memory is wanted only behind the header
abbrev pub LacksAttachments : List ℕ → AttachFault → Type 0
LacksAttachments file faults.NotMdf = ¬ IsMdf file
LacksAttachments file (faults.Version ver) = IsMdf file × (¬ HasReadVersion file) × (ver ≡ version_of file)
LacksAttachments file (faults.Unfinalized std custom) =
    (IsMdf file × HasReadVersion file) × (¬ IsFinalized file) × (std ≡ standard_flags file) × (custom ≡ custom_flags file)
LacksAttachments file (faults.Bad at want) = BeginsFinalized file × IsMissing file at want
LacksAttachments file (faults.TooMany at) =
    BeginsFinalized file × (IsPastMost file at ⊎ (IsPastContents file at ⊎ IsPastTexts file at))
LacksAttachments file faults.Memory = BeginsFinalized file × IsBlock file 64 Hd

-- they are refused, for the first fault; want of memory is none of the file's
abbrev pub AreRefused : List ℕ → AttachFault → Type 0
AreRefused file faults.Memory = ⊥
AreRefused file fault = IsFirst fault (attachments file) × LacksAttachments file fault

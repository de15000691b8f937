-- The file with attachments: the sorted file of a measurement, whose header names the attachments behind its last block.
use Rattle.std.specs.Prelude.{ℕ, ◌≡◌, ◌+◌, ◌^◌, ◌<◌, List, [], ◌∷◌, ◌++◌, length, map, replicate, codes}
use Rattle.std.specs.Int.{to_le_bytes, w16, w64}
use Rattle.mdf_format.specs.Block.{link_at}
use Rattle.mdf_format.specs.declared.kind.Kind.TheVariants.{At}
use Rattle.mdf_block.specs.declared.link.Link.{Link}
use Rattle.mdf_block.specs.Draft.{Placed, linked, address_of, with_link, written}
use Rattle.mdf_attach.specs.declared.attachment.Attachment.{Attachment}
use Rattle.mdf_attach.specs.Stands.{AreAttachments, AreFew}
use Rattle.mdf_tree.specs.Text.{note_blocks, note_link, IsWritable}
use Rattle.mdf_tree.specs.Group.{next_link}
use Rattle.mdf_spell.specs.Session.{finalized_ident}
use Rattle.mdf_model.specs.Measurement.{Measured}
use Rattle.tool_sort.specs.Kept.{IsSortedOf}
use Rattle.tool_sort.specs.Sorted.{sorted_blocks, sorted_file}

-- the body of an ATBLOCK: its fields, and then the embedded data
abbrev pub attachment_body : Attachment → List ℕ
attachment_body row =
    to_le_bytes w16 row.flags
    ++ (to_le_bytes w16 row.creator
    ++ (replicate 4 0
    ++ (row.md5 ++ (to_le_bytes w64 row.original ++ (to_le_bytes w64 (length row.content) ++ row.content)))))

-- where the MIME type and the comment of the attachment at block n stand, and the block behind them; the name is block n + 1
abbrev pub mime_number : ℕ → Attachment → ℕ
mime_number n row = n + 1 + length (note_blocks row.name)

abbrev pub comment_number : ℕ → Attachment → ℕ
comment_number n row = mime_number n row + length (note_blocks row.mime)

abbrev pub past_attachment : ℕ → Attachment → ℕ
past_attachment n row = comment_number n row + length (note_blocks row.comment)

-- its links: the next attachment, its name, its MIME type and its comment
abbrev pub attachment_links : ℕ → Link → Attachment → List Link
attachment_links n next row =
    next ∷ note_link (n + 1) row.name ∷ note_link (mime_number n row) row.mime ∷ note_link (comment_number n row) row.comment ∷ []

-- AT alone
abbrev pub attachment_own : ℕ → Link → Attachment → Placed
attachment_own n next row = linked At (attachment_links n next row) (attachment_body row)

-- the attachment at block n: AT, and then its name, MIME type and comment
unfoldable pub attachment_blocks : ℕ → Link → Attachment → List Placed
attachment_blocks n next row =
    attachment_own n next row ∷ (note_blocks row.name ++ (note_blocks row.mime ++ note_blocks row.comment))

-- attachments from block n on, each linked to the next one
unfoldable pub attachments_blocks : ℕ → List Attachment → List Placed
attachments_blocks n [] = []
attachments_blocks n (row ∷ rest) =
    attachment_blocks n (next_link (past_attachment n row) rest) row ++ attachments_blocks (past_attachment n row) rest

-- the attachments as they stand then
unfoldable pub placed_attachments : List Placed → ℕ → List Attachment → List Attachment
placed_attachments blocks n [] = []
placed_attachments blocks n (row ∷ rest) =
    record row { at = address_of blocks n } ∷ placed_attachments blocks (past_attachment n row) rest

-- blocks of which the first one's fourth link names what comes behind them, where there are attachments, and then these
abbrev pub attached_to : List Placed → List Attachment → List Placed
attached_to blocks rows = with_link blocks 0 3 (next_link (length blocks) rows) ++ attachments_blocks (length blocks) rows

-- the sorted file of a measurement with attachments
abbrev pub attached_blocks : Measured → List Attachment → ℕ → List Placed
attached_blocks m rows now = attached_to (sorted_blocks m (codes "attach") now) rows

abbrev pub attached_file : Measured → List Attachment → ℕ → List ℕ
attached_file m rows now = written finalized_ident (attached_blocks m rows now)

-- what is read back as it is written: numbers that fit their fields, and texts without zero bytes
pub record IsAttachmentWritable (row : Attachment) : Type 0 where
  pub flags : row.flags < 2 ^ 16
  pub creator : row.creator < 2 ^ 16
  pub md5 : length row.md5 ≡ 16
  pub original : row.original < 2 ^ 64
  pub size : length row.content < 2 ^ 64
  pub name : IsWritable row.name
  pub mime : IsWritable row.mime
  pub comment : IsWritable row.comment

-- attachments that say the same, wherever their blocks stand
abbrev pub plain_attachment : Attachment → Attachment
plain_attachment row = record row { at = 0 }

abbrev pub SameAttachments : List Attachment → List Attachment → Type 0
SameAttachments rows others = map plain_attachment rows ≡ map plain_attachment others

-- where the first attachment stands behind so many bytes, if there is one
abbrev pub first_place : List Attachment → ℕ → ℕ
first_place [] end = 0
first_place (row ∷ rest) end = end

-- The bytes are a valid file with the head, the rows, the records and samples of the measurement, one entry more in its
-- history, and attachments that say the same as these, as few as are read of a file. The header names the first of them where the
-- sorted file ends.
pub record IsAttachedOf (m : Measured) (rows : List Attachment) (now : ℕ) (bytes : List ℕ) : Type 0 where
  pub sorted : IsSortedOf m (codes "attach") now bytes
  pub others : List Attachment
  pub attached : AreAttachments bytes others
  pub few : AreFew others
  pub same : SameAttachments rows others
  pub first : link_at bytes 64 3 ≡ first_place rows (length (sorted_file m (codes "attach") now))

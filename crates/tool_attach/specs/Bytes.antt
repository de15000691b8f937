-- The bytes of the file with attachments: the sorted file, with the link to them in its header, and behind it their blocks, one by
-- one.
use Rattle.std.specs.Prelude.{ℕ, ◌+◌, ◌-◌, List, [], ◌∷◌, ◌++◌, length, replicate}
use Rattle.std.specs.List.{flat_map}
use Rattle.std.specs.Int.{to_le_bytes, w64}
use Rattle.mdf_format.specs.Number.{aligned, patched}
use Rattle.mdf_format.specs.Block.{name_of, header_size}
use Rattle.mdf_format.specs.declared.kind.Kind.{Kind}
use Rattle.mdf_format.specs.declared.kind.Kind.TheVariants.{At, Tx, Md}
use Rattle.mdf_block.specs.declared.note.Note.{Note}
use Rattle.mdf_block.specs.declared.note.Note.TheVariants as notes
use Rattle.mdf_attach.specs.declared.attachment.Attachment.{Attachment}
use Rattle.mdf_tree.specs.Text.{text_body}
use Rattle.tool_attach.specs.Attached.{attachment_body, first_place}

-- a block with these addresses in its links: its name, 4 zero bytes, its length and the number of its links, the links, its body, and
-- zero bytes up to a multiple of 8
abbrev pub laid_block : Kind → List ℕ → List ℕ → List ℕ
laid_block kind addresses body =
    let size = header_size (length addresses) + length body in
    name_of kind ++ replicate 4 0 ++ to_le_bytes w64 size ++ to_le_bytes w64 (length addresses)
    ++ flat_map (to_le_bytes w64) addresses ++ body ++ replicate (aligned size - size) 0

-- the block of a text, if there is one, and its address where it is to stand at one
abbrev pub text_bytes : Note → List ℕ
text_bytes notes.Nothing = []
text_bytes (notes.Plain bytes) = laid_block Tx [] (text_body bytes)
text_bytes (notes.Xml bytes) = laid_block Md [] (text_body bytes)

abbrev pub text_place : ℕ → Note → ℕ
text_place at notes.Nothing = 0
text_place at (notes.Plain bytes) = at
text_place at (notes.Xml bytes) = at

-- behind an ATBLOCK at an address stand its name, its MIME type and its comment, and then what follows
abbrev pub name_place : ℕ → Attachment → ℕ
name_place at row = at + aligned (header_size 4 + length (attachment_body row))

abbrev pub mime_place : ℕ → Attachment → ℕ
mime_place at row = name_place at row + length (text_bytes row.name)

abbrev pub comment_place : ℕ → Attachment → ℕ
comment_place at row = mime_place at row + length (text_bytes row.mime)

abbrev pub place_behind : ℕ → Attachment → ℕ
place_behind at row = comment_place at row + length (text_bytes row.comment)

-- the attachment at an address, which names the next one at another
abbrev pub attachment_bytes : ℕ → ℕ → Attachment → List ℕ
attachment_bytes at next row =
    laid_block At
    (next ∷ text_place (name_place at row) row.name ∷ text_place (mime_place at row) row.mime ∷ text_place (comment_place at row) row.comment ∷ [])
    (attachment_body row)
    ++ (text_bytes row.name ++ (text_bytes row.mime ++ text_bytes row.comment))

-- attachments from an address on, each of which names the next one
abbrev pub attachments_bytes : ℕ → List Attachment → List ℕ
attachments_bytes at [] = []
attachments_bytes at (row ∷ rest) =
    attachment_bytes at (first_place rest (place_behind at row)) row ++ attachments_bytes (place_behind at row) rest

-- a sorted file with attachments: the fourth link of its header, at byte 112, names its end, where they begin
abbrev pub with_attachments : List ℕ → List Attachment → List ℕ
with_attachments sorted rows =
    patched 112 (to_le_bytes w64 (first_place rows (length sorted))) sorted ++ attachments_bytes (length sorted) rows

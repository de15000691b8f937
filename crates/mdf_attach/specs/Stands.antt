-- The attachments of a finalized file in the standard's words: no limits, and no order of reading.
use Rattle.std.specs.Prelude.{ℕ, ◌≡◌, ◌+◌, ◌≤◌, List, length, map, sum_by}
use Rattle.std.specs.List.{AllByRecursion}
use Rattle.mdf_format.specs.Number.{le_number, bytes_at}
use Rattle.mdf_format.specs.Block.{link_at, body_at, body_size, IsBlock, IsChain}
use Rattle.mdf_format.specs.Identification.{IsMdf, IsFinalized, HasReadVersion}
use Rattle.mdf_format.specs.declared.kind.Kind.TheVariants.{Hd, At}
use Rattle.mdf_block.specs.declared.note.Note.{Note}
use Rattle.mdf_block.specs.Text.{note_size, IsNote}
use Rattle.mdf_attach.specs.declared.attachment.Attachment.{Attachment}

-- the file begins as a finalized file of a version that is read
pub record BeginsFinalized (file : List ℕ) : Type 0 where
  pub mdf : IsMdf file
  pub version : HasReadVersion file
  pub finalized : IsFinalized file

-- the body of an ATBLOCK: flags and creator index of 2 bytes each, 4 reserved bytes, the MD5, the original size and the
-- embedded size of 8 bytes each, and then the embedded data
abbrev pub the_attachment : ℕ → List ℕ → Note → Note → Note → Attachment
the_attachment at body name mime comment = record {
  at = at;
  name = name;
  mime = mime;
  comment = comment;
  flags = le_number (bytes_at 2 body 0);
  creator = le_number (bytes_at 2 body 2);
  md5 = bytes_at 16 body 8;
  original = le_number (bytes_at 8 body 24);
  content = bytes_at (le_number (bytes_at 8 body 32)) body 40;
}

abbrev pub embedded_size : List ℕ → ℕ → ℕ
embedded_size file at = le_number (bytes_at 8 (body_at file at) 32)

-- an ATBLOCK stands whole at the address, and its embedded data lies in its body
pub record IsWhole (file : List ℕ) (at : ℕ) : Type 0 where
  pub block : IsBlock file at At
  pub holds : 40 + embedded_size file at ≤ body_size file at

-- an attachment as it stands in the file: the links of its block are the next one, the name, the MIME type and the comment
pub record IsAttachment (file : List ℕ) (attachment : Attachment) : Type 0 where
  pub whole : IsWhole file attachment.at
  pub fields : attachment ≡ the_attachment attachment.at (body_at file attachment.at) attachment.name attachment.mime attachment.comment
  pub name : IsNote file (link_at file attachment.at 1) attachment.name
  pub mime : IsNote file (link_at file attachment.at 2) attachment.mime
  pub comment : IsNote file (link_at file attachment.at 3) attachment.comment

-- the attachments of the file: the chain from the fourth link of the header on
pub record AreAttachments (file : List ℕ) (rows : List Attachment) : Type 0 where
  pub begins : BeginsFinalized file
  pub header : IsBlock file 64 Hd
  pub chain : IsChain file (link_at file 64 3) At (map (λ row. row.at) rows)
  pub each : AllByRecursion (IsAttachment file) rows

-- how many bytes of texts an attachment has, and how many all of some have; and how many bytes of embedded data
abbrev pub text_size : Attachment → ℕ
text_size row = note_size row.name + note_size row.mime + note_size row.comment

abbrev pub texts_size : List Attachment → ℕ
texts_size rows = sum_by (λ row. text_size row) rows

abbrev pub contents_size : List Attachment → ℕ
contents_size rows = sum_by (λ row. length row.content) rows

-- as many as are read of a file
pub record AreFew (rows : List Attachment) : Type 0 where
  pub count : length rows ≤ 65535
  pub texts : texts_size rows ≤ 67108864
  pub contents : contents_size rows ≤ 536870912

-- The attachments of a finalized file as they are read: the list along the chain from the fourth link of the header, or the
-- first fault.
use Rattle.std.specs.Prelude.{ℕ, ◌≡◌, ◌+◌, ◌-◌, nat_le, if◌then◌else◌, List, Option, Some, Result, Ok, Err}
use Rattle.mdf_format.specs.Number.{le_number, bytes_at}
use Rattle.mdf_format.specs.Block.{link_at}
use Rattle.mdf_format.specs.declared.kind.Kind.TheVariants.{Hd, At}
use Rattle.mdf_block.specs.declared.what.What.{What}
use Rattle.mdf_block.specs.declared.what.What.TheVariants as whats
use Rattle.mdf_block.specs.declared.place.BlockAt.{BlockAt}
use Rattle.mdf_block.specs.Refusal.{Refusal, NotMdf, Unfinalized, Version, Bad, TooMany, Read, ◌>>=◌}
use Rattle.mdf_block.specs.Block.{block, body_of}
use Rattle.mdf_block.specs.Text.{note}
use Rattle.mdf_block.specs.Chain.{Step, chain}
use Rattle.mdf_head.specs.declared.identity.Ident.{Ident}
use Rattle.mdf_head.specs.Ident.{identify}
use Rattle.mdf_attach.specs.declared.attachment.Attachment.{Attachment}
use Rattle.mdf_attach.specs.declared.budget.Budget.{Budget}
use Rattle.mdf_attach.specs.declared.field.Fields.{Fields}
use Rattle.mdf_attach.specs.declared.texts.Texts.{Texts}
use Rattle.mdf_attach.specs.declared.fault.AttachFault.{AttachFault}
use Rattle.mdf_attach.specs.declared.fault.AttachFault.TheVariants as faults
use Rattle.mdf_attach.specs.declared.fault.ListFault.{ListFault}
use Rattle.mdf_attach.specs.declared.fault.ListFault.TheVariants as lists

-- what stands in the body of an ATBLOCK before the embedded data
abbrev pub fields_of : List ℕ → Fields
fields_of body = record {
  flags = le_number (bytes_at 2 body 0);
  creator = le_number (bytes_at 2 body 2);
  md5 = bytes_at 16 body 8;
  original = le_number (bytes_at 8 body 24);
  embedded = le_number (bytes_at 8 body 32);
}

-- an attachment from its parts
abbrev pub attachment_with : ℕ → Fields → Texts → List ℕ → Attachment
attachment_with at fields words content = record {
  at = at;
  name = words.name;
  mime = words.mime;
  comment = words.comment;
  flags = fields.flags;
  creator = fields.creator;
  md5 = fields.md5;
  original = fields.original;
  content = content;
}

-- the embedded data lies in the body behind the fields
unfoldable pub held : ℕ → BlockAt → Fields → Read (BlockAt × Fields)
held at b fields = if nat_le fields.embedded (b.body_len - 40) then Ok (b, fields) else Err (Bad at At)

-- the ATBLOCK at an address that stands whole with its embedded data
unfoldable pub whole : List ℕ → ℕ → Read (BlockAt × Fields)
whole file at = do
  b ← block file at At
  held at b (fields_of (body_of file b))

-- the texts of the ATBLOCK at an address, and how many bytes of texts may still come
unfoldable pub texts : List ℕ → ℕ → ℕ → Read (Texts × ℕ)
texts file at left = do
  name ← note file (link_at file at 1) left
  mime ← note file (link_at file at 2) name.1
  comment ← note file (link_at file at 3) mime.1
  Ok (record { name = name.0; mime = mime.0; comment = comment.0 }, comment.1)

-- what may still come behind so many bytes of embedded data
unfoldable pub spent : ℕ → ℕ → Budget → Read Budget
spent at len left =
    if nat_le len left.embedded then Ok (record left { embedded = left.embedded - len }) else Err (TooMany whats.Block at)

-- the attachment of a block
unfoldable pub attachment_of_block : List ℕ → BlockAt → Fields → Budget → Read (Attachment × ℕ × Budget)
attachment_of_block file b fields left = do
  words ← texts file b.at left.text
  Ok (
    attachment_with b.at fields words.0 (bytes_at fields.embedded file (b.body_at + 40)),
    link_at file b.at 0,
    record left { text = words.1 },
  )

-- an attachment at an address: its block, its embedded data, and then its texts
unfoldable pub attachment : List ℕ → Step Attachment Budget
attachment file at left = do
  found ← whole file at
  rest ← spent at found.1.embedded left
  attachment_of_block file found.0 found.1 rest

-- a block past the count: no ATBLOCK, or too many of them
unfoldable pub past : {A : Type 0} → List ℕ → ℕ → Read A
past file at = whole file at >>= λ _. Err (TooMany whats.Block at)

-- what may come of the attachments of a file: 67,108,864 bytes of texts and 536,870,912 bytes of embedded data
abbrev pub whole_budget : Budget
whole_budget = record { text = 67108864; embedded = 536870912 }

-- the attachments from an address on: at most 65,535
abbrev pub attachments_from : List ℕ → ℕ → Read (List Attachment × ℕ × Budget)
attachments_from file at = chain (attachment file) (past file) 65535 at whole_budget

-- those that the header names
unfoldable pub header_attachments : List ℕ → Read (List Attachment)
header_attachments file = do
  b ← block file 64 Hd
  rows ← attachments_from file (link_at file b.at 3)
  Ok rows.0

abbrev pub attachments_by : List ℕ → Ident → Read (List Attachment)
attachments_by file id = if id.finalized then header_attachments file else Err (Unfinalized id.std_flags id.custom_flags)

-- the attachments of a file
unfoldable pub attachments : List ℕ → Read (List Attachment)
attachments file = identify file >>= attachments_by file

abbrev pub list_refusal : ListFault → Option Refusal
list_refusal (lists.Bad at want) = Some (Bad at want)
list_refusal (lists.TooMany what at) = Some (TooMany what at)

-- the fault is the first; of what there is too many it does not say; want of memory says nothing of the file
abbrev pub IsFirst : {A : Type 0} → AttachFault → Read A → Type 0
IsFirst faults.NotMdf read = read ≡ Err NotMdf
IsFirst (faults.Version ver) read = read ≡ Err (Version ver)
IsFirst (faults.Unfinalized std custom) read = read ≡ Err (Unfinalized std custom)
IsFirst (faults.Bad at want) read = read ≡ Err (Bad at want)
IsFirst (faults.TooMany at) read = (what : What) × (read ≡ Err (TooMany what at))
IsFirst faults.Memory read = Unit {0}

-- what is found, or the first fault
abbrev pub GivesList : {A : Type 0} → Result A AttachFault → Read A → Type 0
GivesList (Ok x) read = read ≡ Ok x
GivesList (Err fault) read = IsFirst fault read

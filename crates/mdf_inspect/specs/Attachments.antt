-- The command `attachments IN`.
use Rattle.std.specs.Prelude.{ℕ, ◌≡◌, List, [], ◌∷◌, map, codes, IsSome, Result, Ok, Err}
use Rattle.std.specs.Fmt.{decimal}
use Rattle.mdf_disk.specs.State.{DiskState}
use Rattle.mdf_port.specs.State.{SinkState}
use Rattle.mdf_block.specs.declared.what.What.TheVariants as whats
use Rattle.mdf_block.specs.Refusal.{Read, ◌>>=◌}
use Rattle.mdf_content.specs.declared.fault.ReadFault.TheVariants as reads
use Rattle.mdf_content.specs.Fault.{read_refusal}
use Rattle.mdf_model.specs.Tree.{finalized}
use Rattle.mdf_attach.specs.declared.attachment.Attachment.{Attachment}
use Rattle.mdf_attach.specs.declared.entry.Entry.{Entry}
use Rattle.mdf_attach.specs.declared.answer.Verdict.{Verdict}
use Rattle.mdf_attach.specs.declared.answer.Verdict.TheVariants as says
use Rattle.mdf_attach.specs.declared.fault.AttachFault.{AttachFault}
use Rattle.mdf_attach.specs.Listed.{header_attachments}
use Rattle.mdf_attach.specs.Shown.{each_of, entry_of}
use Rattle.mdf_attach.specs.Stands.{AreAttachments, AreFew}
use Rattle.mdf_attach.specs.Lacks.{AreRefused}
use Rattle.tool_export.specs.Table.{name_text}
use Rattle.mdf_command.specs.Texts.{line, numbered, shown_text, Prints}
use Rattle.mdf_command.specs.Faults.{INPUT_LIMIT, end_status, fault_line}
use Rattle.mdf_command.specs.Load.{LoadFaultComes}
use Rattle.mdf_command.specs.Attached.{attach_fault}
use Rattle.mdf_command.specs.declared.fault.Fault.{Fault}
use Rattle.mdf_command.specs.declared.fault.Fault.TheVariants as fault
use Rattle.mdf_inspect.specs.Paged.{IfReadOf}

-- whether the MD5 is right
abbrev pub says_text : Verdict → List ℕ
says_text says.Ok = codes "ok"
says_text says.Differs = codes "bad"
says_text says.Unchecked = codes "none"

-- the line of an attachment: its number, its name, how many bytes it has outside of the file and embedded, and whether its MD5 is right
abbrev pub attachment_line : ℕ → Entry → List ℕ
attachment_line number row =
    line (codes "attachment " ∷ decimal number ∷ codes " " ∷ shown_text (name_text row.name) ∷ codes " size " ∷ decimal row.original
    ∷ codes " embedded " ∷ decimal row.embedded ∷ codes " md5 " ∷ says_text row.verdict ∷ [])

-- what is listed of a file as it is read, or the first reason to refuse it: the identification of a finalized file, and then each
-- attachment that the header names
unfoldable pub entries : List ℕ → Read (List Entry)
entries file = do
  _ ← finalized file
  each_of entry_of (header_attachments file)

-- this is listed of the attachments of the file, as few as are read
abbrev pub AreListed : List ℕ → List Entry → Type 0
AreListed file listed = (rows : List Attachment) × AreAttachments file rows × AreFew rows × (listed ≡ map entry_of rows)

-- the fault that is printed: where a file is refused for too many blocks, these are attachments
abbrev pub listing_fault : Fault → Fault
listing_fault (fault.Read (reads.TooMany whats.Block at)) = fault.Attached at
listing_fault problem = problem

-- The attachments of a file are refused with this fault, the first one.
abbrev pub AreRefusedWith : List ℕ → Fault → Type 0
AreRefusedWith file problem = (refused : AttachFault) × AreRefused file refused × (problem ≡ attach_fault file refused)

-- None are listed only where this holds of the disk of the input before and after: the attachments of its file are refused, and never
-- for want of memory; or memory was wanted, or the file could not be had, or not all of it.
abbrev pub ListingFaultComes : DiskState → DiskState → Fault → Type 0
ListingFaultComes old new (fault.Read refused) =
    IsSome (read_refusal refused) × IfReadOf INPUT_LIMIT old (λ file. AreRefusedWith file (fault.Read refused))
ListingFaultComes old new (fault.Attached at) = IfReadOf INPUT_LIMIT old (λ file. AreRefusedWith file (fault.Attached at))
ListingFaultComes old new problem = LoadFaultComes old new problem

-- these are listed of the file that the disk tells, if it tells one
abbrev pub ListingComes : DiskState → DiskState → Result (List Entry) Fault → Type 0
ListingComes old new (Ok listed) = IfReadOf INPUT_LIMIT old (λ file. AreListed file listed)
ListingComes old new (Err problem) = ListingFaultComes old new problem

abbrev pub listing_text : Result (List Entry) Fault → List ℕ
listing_text (Ok listed) = numbered attachment_line 0 listed
listing_text (Err fault) = fault_line fault

-- How the command ends, by what the disk of the input and the sink tell before and after.
abbrev pub EndsListing : DiskState → DiskState → SinkState → SinkState → ℕ → Type 0
EndsListing disk disk' sink sink' status =
    (end : Result (List Entry) Fault) × ListingComes disk disk' end × Prints (listing_text end) (end_status end) sink sink' status

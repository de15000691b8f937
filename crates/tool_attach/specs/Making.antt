-- How the parts of `attach` end: the reading of both files, and the making of the file.
use Rattle.std.specs.Prelude.{ℕ, ◌≡◌, List, Result, Ok, Err, IsSome}
use Rattle.std.specs.List.{AllByRecursion}
use Rattle.mdf_block.specs.Refusal.{Fails}
use Rattle.mdf_content.specs.Fault.{read_refusal}
use Rattle.mdf_disk.specs.State.{DiskState}
use Rattle.mdf_attach.specs.declared.attachment.Attachment.{Attachment}
use Rattle.mdf_attach.specs.declared.fault.AttachFault.TheVariants as attach
use Rattle.mdf_attach.specs.Stands.{AreAttachments, AreFew}
use Rattle.mdf_attach.specs.Lacks.{AreRefused, LacksAttachments}
use Rattle.mdf_model.specs.Measurement.{Measured, measurement}
use Rattle.mdf_tool.specs.declared.fault.ToolFault.{ToolFault}
use Rattle.mdf_tool.specs.declared.fault.ToolFault.TheVariants as tool
use Rattle.mdf_tool.specs.declared.made.Made.{Made}
use Rattle.tool_sort.specs.Made.{report_for}
use Rattle.tool_attach.specs.declared.fault.CarryFault.{CarryFault}
use Rattle.tool_attach.specs.declared.fault.CarryFault.TheVariants as faults
use Rattle.tool_attach.specs.Attached.{attached_file, IsAttachmentWritable}
use Rattle.tool_attach.specs.Carry.{Carrying, IsCarrying, CarryEnds}

-- the attachments of a file that are read: as few as may be, and such as can be written
pub record AreTaken (file : List ℕ) (rows : List Attachment) : Type 0 where
  pub attached : AreAttachments file rows
  pub few : AreFew rows
  pub writable : AllByRecursion IsAttachmentWritable rows

-- they are read, or refused; memory is wanted only behind the header
abbrev pub FromRead : List ℕ → Result (List Attachment) CarryFault → Type 0
FromRead file (Ok rows) = AreTaken file rows
FromRead file (Err (faults.From fault)) = AreRefused file fault
FromRead file (Err faults.Memory) = LacksAttachments file attach.Memory
FromRead file (Err _) = ⊥

-- the file that they are carried into is read, or refused for its first fault, or memory was wanted
abbrev pub FileRead : List ℕ → Result Measured CarryFault → Type 0
FileRead file (Ok found) = measurement file ≡ Ok found
FileRead file (Err (faults.File fault)) = IsSome (read_refusal fault) × Fails (read_refusal fault) (measurement file)
FileRead file (Err faults.Memory) = Unit {0}
FileRead file (Err _) = ⊥

-- the file with attachments, and what is told of it
pub record IsMadeWith (m : Measured) (rows : List Attachment) (now : ℕ) (made : Made) : Type 0 where
  pub bytes_are : made.bytes ≡ attached_file m rows now
  pub report_is : made.report ≡ report_for m

-- what is to be written, and what is told of it
abbrev pub IsMadeOf : Carrying → Made → Type 0
IsMadeOf asked made = IsCarrying asked made.bytes made.report

-- the fault with which it ends before the disk of the output is touched
abbrev pub IsRefusal : Carrying → CarryFault → Type 0
IsRefusal asked fault = (state : DiskState) → CarryEnds asked state state (Err fault)

-- the fault where that was not written
abbrev pub unwritten : ToolFault → CarryFault
unwritten tool.Failed = faults.Failed
unwritten _ = faults.Memory

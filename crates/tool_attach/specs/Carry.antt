-- How `attach` ends, and what a crash inside it leaves.
use Rattle.std.specs.Prelude.{ℕ, ◌≡◌, ◌⊎◌, List, Result, Ok, Err, IsSome}
use Rattle.mdf_format.specs.Cause.{Rose}
use Rattle.mdf_block.specs.Refusal.{Fails}
use Rattle.mdf_content.specs.Fault.{read_refusal}
use Rattle.mdf_disk.specs.State.{DiskState}
use Rattle.mdf_attach.specs.declared.attachment.Attachment.{Attachment}
use Rattle.mdf_attach.specs.declared.fault.AttachFault.TheVariants as attach
use Rattle.mdf_attach.specs.Stands.{AreAttachments, AreFew}
use Rattle.mdf_attach.specs.Lacks.{AreRefused, LacksAttachments}
use Rattle.mdf_model.specs.Measurement.{Measured, measurement}
use Rattle.mdf_seal.specs.Seal.{IsKept}
use Rattle.mdf_tool.specs.Tool.{IsSealed}
use Rattle.mdf_tool.specs.declared.made.Report.{Report}
use Rattle.tool_sort.specs.Made.{report_for}
use Rattle.tool_attach.specs.declared.fault.CarryFault.{CarryFault}
use Rattle.tool_attach.specs.declared.fault.CarryFault.TheVariants as faults
use Rattle.tool_attach.specs.Attached.{attached_file, IsAttachedOf}

-- what is carried: the bytes of the file with the attachments, those of the file that they are carried into, and the time in ns
pub record Carrying : Type 0 where
  pub from : List ℕ
  pub file : List ℕ
  pub now : ℕ

-- the attachments of the one file, as few as are read, and the measurement of the other
pub record AreCarried (asked : Carrying) : Type 0 where
  pub rows : List Attachment
  pub found : Measured
  pub attached : AreAttachments asked.from rows
  pub few : AreFew rows
  pub is_read : measurement asked.file ≡ Ok found

-- These bytes are the sorted file of the measurement of the one file with the attachments of the other, at a time in ns, and this
-- is told of it. They are a valid file whose measurement has the same header, channel groups and records, and one entry more in
-- its history, and whose attachments say the same.
pub record IsCarrying (asked : Carrying) (bytes : List ℕ) (report : Report) : Type 0 where
  pub read : AreCarried asked
  pub bytes_are : bytes ≡ attached_file read.found read.rows asked.now
  pub keeps : IsAttachedOf read.found read.rows asked.now bytes
  pub report_is : report ≡ report_for read.found

-- How it ends, by what the disk of the output tells before and after: that file is kept whole; or the attachments are refused, or
-- else the file that they are carried into, or memory was wanted behind the header of the file with the attachments, and the disk
-- is as before; or the disk failed.
abbrev pub CarryEnds : Carrying → DiskState → DiskState → Result Report CarryFault → Type 0
CarryEnds asked old new (Ok report) = (bytes : List ℕ) × IsCarrying asked bytes report × IsKept new.content new.story bytes
CarryEnds asked old new (Err (faults.From fault)) = AreRefused asked.from fault × (new ≡ old)
CarryEnds asked old new (Err (faults.File fault)) = ((rows : List Attachment) × AreAttachments asked.from rows × AreFew rows)
    × IsSome (read_refusal fault) × Fails (read_refusal fault) (measurement asked.file) × (new ≡ old)
CarryEnds asked old new (Err faults.Failed) = Rose old.faults new.faults
CarryEnds asked old new (Err faults.Memory) = LacksAttachments asked.from attach.Memory × (new ≡ old)

-- what a crash may leave: a file under its seal, or that file
abbrev pub IsCarryImage : Carrying → List ℕ → Type 0
IsCarryImage asked image = IsSealed image ⊎ ((report : Report) × IsCarrying asked image report)

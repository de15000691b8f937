-- How `finalize` ends, and what a crash inside it leaves.
use Rattle.std.specs.Prelude.{ℕ, ◌≡◌, ◌⊎◌, List, Result, Ok, Err, IsSome}
use Rattle.mdf_format.specs.Cause.{Rose}
use Rattle.mdf_block.specs.Refusal.{Fails}
use Rattle.mdf_content.specs.Fault.{read_refusal}
use Rattle.mdf_disk.specs.State.{DiskState}
use Rattle.mdf_seal.specs.Seal.{IsKept}
use Rattle.mdf_session.specs.Identified.{IsIdentifiedRecording}
use Rattle.mdf_session.specs.Session.{SessionParts, session}
use Rattle.mdf_tool.specs.Tool.{IsSealed}
use Rattle.mdf_tool.specs.declared.made.Report.{Report}
use Rattle.mdf_tool.specs.declared.fault.ToolFault.{ToolFault}
use Rattle.mdf_tool.specs.declared.fault.ToolFault.TheVariants as tool
use Rattle.tool_final.specs.Finalized.{IsSessionFile, report_for}
use Rattle.tool_final.specs.Keeping.{IsFinalizedRecording}

-- these bytes are the finalized session of this file, at a time in ns, and this is told of it
pub record IsFinalizedOf (file : List ℕ) (now : ℕ) (bytes : List ℕ) (report : Report) : Type 0 where
  pub found : SessionParts
  pub is_read : session file ≡ Ok found
  pub bytes_are : IsSessionFile found now bytes
  pub keeps : IsFinalizedRecording file now bytes
  pub report_is : report ≡ report_for found

-- How it ends, by what the disk of the output tells before and after: the finalized session of the file is kept whole; or the
-- file is refused, for its first fault, or it is identified and memory was wanted, and the disk is as before; or the disk failed.
abbrev pub FinalizeEnds : List ℕ → ℕ → DiskState → DiskState → Result Report ToolFault → Type 0
FinalizeEnds file now old new (Ok report) = (bytes : List ℕ) × IsFinalizedOf file now bytes report × IsKept new.content new.story bytes
FinalizeEnds file now old new (Err (tool.Read fault)) = IsSome (read_refusal fault) × Fails (read_refusal fault) (session file) × (new ≡ old)
FinalizeEnds file now old new (Err tool.Failed) = Rose old.faults new.faults
FinalizeEnds file now old new (Err tool.Memory) = IsIdentifiedRecording file × (new ≡ old)

-- what a crash may leave: a file under its seal, or the finalized session of the file
abbrev pub IsFinalizeImage : List ℕ → ℕ → List ℕ → Type 0
IsFinalizeImage file now image = IsSealed image ⊎ ((report : Report) × IsFinalizedOf file now image report)

-- How `cut` ends, and what a crash inside it leaves.
use Rattle.std.specs.Prelude.{ℕ, ℤ, ◌≡◌, ◌⊎◌, List, Result, Ok, Err, IsSome, codes}
use Rattle.mdf_format.specs.Cause.{Rose}
use Rattle.mdf_block.specs.Refusal.{Fails}
use Rattle.mdf_content.specs.Fault.{read_refusal}
use Rattle.mdf_disk.specs.State.{DiskState}
use Rattle.mdf_model.specs.Identified.{IsIdentified}
use Rattle.mdf_model.specs.Measurement.{Measured, measurement}
use Rattle.mdf_seal.specs.Seal.{IsKept}
use Rattle.tool_sort.specs.Kept.{IsSortedOf}
use Rattle.tool_sort.specs.Made.{report_for}
use Rattle.tool_sort.specs.Sorted.{sorted_file}
use Rattle.mdf_tool.specs.Tool.{IsSealed}
use Rattle.mdf_tool.specs.declared.made.Report.{Report}
use Rattle.mdf_tool.specs.declared.fault.ToolFault.{ToolFault}
use Rattle.mdf_tool.specs.declared.fault.ToolFault.TheVariants as tool
use Rattle.tool_cut.specs.Kept.{cut_of}

-- what a cut asks for: the first number of the master that is kept, the first one behind that is not, and the time in ns
pub record Cutting : Type 0 where
  pub from : ℤ
  pub to : ℤ
  pub now : ℕ

-- These bytes are the sorted file of the measurement of this file with the records that are kept, and this is told of it. They
-- are a valid file whose measurement has the same header, channel groups and streams, those records, and one entry more in its
-- history.
pub record IsCutOf (file : List ℕ) (asked : Cutting) (bytes : List ℕ) (report : Report) : Type 0 where
  pub found : Measured
  pub is_read : measurement file ≡ Ok found
  pub bytes_are : bytes ≡ sorted_file (cut_of asked.from asked.to found) (codes "cut") asked.now
  pub keeps : IsSortedOf (cut_of asked.from asked.to found) (codes "cut") asked.now bytes
  pub report_is : report ≡ report_for (cut_of asked.from asked.to found)

-- How it ends, by what the disk of the output tells before and after: that file is kept whole; or the input is refused, for
-- its first fault, or it is identified and memory was wanted, and the disk is as before; or the disk failed.
abbrev pub CutEnds : List ℕ → Cutting → DiskState → DiskState → Result Report ToolFault → Type 0
CutEnds file asked old new (Ok report) = (bytes : List ℕ) × IsCutOf file asked bytes report × IsKept new.content new.story bytes
CutEnds file asked old new (Err (tool.Read fault)) = IsSome (read_refusal fault) × Fails (read_refusal fault) (measurement file) × (new ≡ old)
CutEnds file asked old new (Err tool.Failed) = Rose old.faults new.faults
CutEnds file asked old new (Err tool.Memory) = IsIdentified file × (new ≡ old)

-- what a crash may leave: a file under its seal, or that file
abbrev pub IsCutImage : List ℕ → Cutting → List ℕ → Type 0
IsCutImage file asked image = IsSealed image ⊎ ((report : Report) × IsCutOf file asked image report)

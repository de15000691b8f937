-- How `sort` ends, and what a crash inside it leaves.
use Rattle.std.specs.Prelude.{ℕ, ◌≡◌, ◌⊎◌, List, Result, Ok, Err, IsSome, codes}
use Rattle.mdf_format.specs.Cause.{Rose}
use Rattle.mdf_block.specs.Refusal.{Fails}
use Rattle.mdf_content.specs.Fault.{read_refusal}
use Rattle.mdf_disk.specs.State.{DiskState}
use Rattle.mdf_seal.specs.Seal.{IsKept}
use Rattle.mdf_model.specs.Identified.{IsIdentified}
use Rattle.mdf_model.specs.Measurement.{Measured, measurement}
use Rattle.tool_sort.specs.Kept.{IsSortedOf}
use Rattle.tool_sort.specs.Sorted.{sorted_file}
use Rattle.tool_sort.specs.Made.{report_for}
use Rattle.mdf_tool.specs.Tool.{IsSealed}
use Rattle.mdf_tool.specs.declared.made.Report.{Report}
use Rattle.mdf_tool.specs.declared.fault.ToolFault.{ToolFault}
use Rattle.mdf_tool.specs.declared.fault.ToolFault.TheVariants as tool

-- These bytes are the sorted file of the measurement of this file, at a time in ns, and this is told of it. They are a valid file
-- whose measurement has the same header, channel groups and records, and one entry more in its history.
pub record IsSorting (file : List ℕ) (now : ℕ) (bytes : List ℕ) (report : Report) : Type 0 where
  pub found : Measured
  pub is_read : measurement file ≡ Ok found
  pub bytes_are : bytes ≡ sorted_file found (codes "sort") now
  pub keeps : IsSortedOf found (codes "sort") now bytes
  pub report_is : report ≡ report_for found

-- How it ends, by what the disk of the output tells before and after: the sorted file of the measurement of the file is kept
-- whole; or the file is refused, for its first fault, or it is identified and memory was wanted, and the disk is as before; or the
-- disk failed.
abbrev pub SortEnds : List ℕ → ℕ → DiskState → DiskState → Result Report ToolFault → Type 0
SortEnds file now old new (Ok report) = (bytes : List ℕ) × IsSorting file now bytes report × IsKept new.content new.story bytes
SortEnds file now old new (Err (tool.Read fault)) = IsSome (read_refusal fault) × Fails (read_refusal fault) (measurement file) × (new ≡ old)
SortEnds file now old new (Err tool.Failed) = Rose old.faults new.faults
SortEnds file now old new (Err tool.Memory) = IsIdentified file × (new ≡ old)

-- what a crash may leave: a file under its seal, or the sorted file of the measurement of the file
abbrev pub IsSortImage : List ℕ → ℕ → List ℕ → Type 0
IsSortImage file now image = IsSealed image ⊎ ((report : Report) × IsSorting file now image report)

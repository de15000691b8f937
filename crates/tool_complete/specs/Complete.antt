-- How `complete` ends, and what a crash inside it leaves.
use Rattle.std.specs.Prelude.{ℕ, ◌≡◌, ◌⊎◌, List, Result, Ok, Err, IsSome, codes}
use Rattle.mdf_format.specs.Cause.{Rose}
use Rattle.mdf_block.specs.Refusal.{Fails}
use Rattle.mdf_content.specs.Fault.{read_refusal}
use Rattle.mdf_disk.specs.State.{DiskState}
use Rattle.mdf_seal.specs.Seal.{IsKept}
use Rattle.mdf_model.specs.Measurement.{Measured}
use Rattle.mdf_tool.specs.Tool.{IsSealed}
use Rattle.mdf_tool.specs.declared.fault.ToolFault.{ToolFault}
use Rattle.mdf_tool.specs.declared.fault.ToolFault.TheVariants as tool
use Rattle.tool_sort.specs.Kept.{IsSortedOf}
use Rattle.tool_sort.specs.Made.{report_for}
use Rattle.tool_sort.specs.Sorted.{sorted_file}
use Rattle.tool_complete.specs.declared.told.Completed.{Completed}
use Rattle.tool_complete.specs.Completed.{completion}
use Rattle.tool_complete.specs.Flags.{IsUnfinished}

-- These bytes are the sorted file of the measurement of the completed file, at a time in ns, and this is told of it. They are a
-- valid file whose measurement has the same header, channel groups and records, and one entry more in its history.
pub record IsCompleting (file : List ℕ) (now : ℕ) (bytes : List ℕ) (told : Completed) : Type 0 where
  pub found : Measured
  pub is_read : completion file ≡ Ok (found, told.rest)
  pub bytes_are : bytes ≡ sorted_file found (codes "finalize") now
  pub keeps : IsSortedOf found (codes "finalize") now bytes
  pub report_is : told.report ≡ report_for found

-- How it ends, by what the disk of the output tells before and after: the sorted file of the completed one is kept whole; or the
-- file is refused, for its first fault, or it is one that can be mended and memory was wanted, and the disk is as before; or the
-- disk failed.
abbrev pub CompleteEnds : List ℕ → ℕ → DiskState → DiskState → Result Completed ToolFault → Type 0
CompleteEnds file now old new (Ok told) = (bytes : List ℕ) × IsCompleting file now bytes told × IsKept new.content new.story bytes
CompleteEnds file now old new (Err (tool.Read fault)) = IsSome (read_refusal fault) × Fails (read_refusal fault) (completion file) × (new ≡ old)
CompleteEnds file now old new (Err tool.Failed) = Rose old.faults new.faults
CompleteEnds file now old new (Err tool.Memory) = IsUnfinished file × (new ≡ old)

-- what a crash may leave: a file under its seal, or the sorted file of the completed one
abbrev pub IsCompleteImage : List ℕ → ℕ → List ℕ → Type 0
IsCompleteImage file now image = IsSealed image ⊎ ((told : Completed) × IsCompleting file now image told)

-- How a tool ends that makes a file of its input, and what a crash inside it leaves.
use Rattle.std.specs.Prelude.{ℕ, ◌≡◌, ◌≢◌, ◌≤◌, ◌⊎◌, List, length, get_or, Option, Some, None, Result, Ok, Err}
use Rattle.mdf_format.specs.Cause.{Rose}
use Rattle.mdf_format.specs.Identification.{IsMdf}
use Rattle.mdf_block.specs.Refusal.{Refusal}
use Rattle.mdf_content.specs.Fault.{read_refusal}
use Rattle.mdf_content.specs.declared.fault.ReadFault.{ReadFault}
use Rattle.mdf_disk.specs.State.{DiskState}
use Rattle.mdf_seal.specs.Seal.{IsKept}
use Rattle.mdf_tool.specs.declared.made.Made.{Made}
use Rattle.mdf_tool.specs.declared.made.Report.{Report}
use Rattle.mdf_tool.specs.declared.fault.ToolFault.{ToolFault}
use Rattle.mdf_tool.specs.declared.fault.ToolFault.TheVariants as tool

-- the tool's fault of a reader's, which is want of memory where no refusal of the file stands for it
abbrev pub fault_or_memory : ReadFault → Option Refusal → ToolFault
fault_or_memory fault None = tool.Memory
fault_or_memory fault (Some refusal) = tool.Read fault

abbrev pub fault_of_read : ReadFault → ToolFault
fault_of_read fault = fault_or_memory fault (read_refusal fault)

-- The file is under its seal: it has at most one byte, or a first byte other than `M`. It is no MDF file.
pub record IsSealed (file : List ℕ) : Type 0 where
  pub shut : (length file ≤ 1) ⊎ (get_or file 0 0 ≢ 77)
  pub no_mdf : ¬ IsMdf file

-- what a crash may leave while a file of these bytes is written: a file under its seal, or the whole
abbrev pub IsToolImage : List ℕ → List ℕ → Type 0
IsToolImage bytes file = IsSealed file ⊎ (file ≡ bytes)

-- How the writing of a made file ends, by what its disk tells before and after: the file is kept whole, or the disk failed.
abbrev pub WriteEnds : Made → DiskState → DiskState → Result Report ToolFault → Type 0
WriteEnds made old new (Ok report) = (report ≡ made.report) × IsKept new.content new.story made.bytes
WriteEnds made old new (Err (tool.Read fault)) = ⊥
WriteEnds made old new (Err tool.Failed) = Rose old.faults new.faults
WriteEnds made old new (Err tool.Memory) = ⊥

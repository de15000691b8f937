-- The input file of a command.
use Rattle.std.specs.Prelude.{ℕ, ◌≡◌, ◌<◌, ◌≤◌, ◌⊎◌, List, length, true, Option, IfSome, Result, Ok, Err}
use Rattle.mdf_format.specs.Cause.{Rose}
use Rattle.mdf_block.specs.Refusal.{Refusal}
use Rattle.mdf_content.specs.Fault.{read_refusal}
use Rattle.mdf_content.specs.declared.fault.ReadFault.{ReadFault}
use Rattle.mdf_disk.specs.State.{DiskState}
use Rattle.mdf_tool.specs.Tool.{fault_or_memory}
use Rattle.mdf_command.specs.Faults.{INPUT_LIMIT, fault_of_tool}
use Rattle.mdf_command.specs.declared.fault.Fault.{Fault}
use Rattle.mdf_command.specs.declared.fault.Fault.TheVariants as fault

-- these bytes are the file, where its disk tells it, and an input may have so many
pub record IsLoaded (disk : DiskState) (file : List ℕ) : Type 0 where
  pub told : IfSome disk.content (λ content. file ≡ content)
  pub short : length file ≤ INPUT_LIMIT

-- the file has more bytes than the most that are read of one
pub record IsOverOf (most : ℕ) (disk : DiskState) (size limit : ℕ) : Type 0 where
  pub limit_is : limit ≡ most
  pub over : limit < size
  pub told : IfSome disk.content (λ file. size ≡ length file)

-- and than an input may have that is held whole
abbrev pub IsOver : DiskState → ℕ → ℕ → Type 0
IsOver = IsOverOf INPUT_LIMIT

-- the disk did not fail
abbrev pub IsCalm : DiskState → DiskState → Type 0
IsCalm old new = new.faults ≡ old.faults

-- Memory was wanted for the name of the file, or for its bytes. So it stands for no disk that failed, and for no file that is too
-- long.
abbrev pub LoadWantsOf : ℕ → DiskState → DiskState → Type 0
LoadWantsOf most old new =
    (new ≡ old) ⊎ ((new.attached ≡ true) × IfSome old.content (λ file. length file ≤ most) × IsCalm old new)

abbrev pub LoadWants : DiskState → DiskState → Type 0
LoadWants = LoadWantsOf INPUT_LIMIT

-- A file could not be had, or not all of it, only where this holds of its disk before and after.
abbrev pub LoadFaultOf : ℕ → DiskState → DiskState → Fault → Type 0
LoadFaultOf most old new fault.Device = Rose old.faults new.faults
LoadFaultOf most old new (fault.InputOver size limit) = IsOverOf most old size limit
LoadFaultOf most old new fault.Memory = LoadWantsOf most old new
LoadFaultOf most old new _ = ⊥

abbrev pub LoadFaultComes : DiskState → DiskState → Fault → Type 0
LoadFaultComes = LoadFaultOf INPUT_LIMIT

abbrev pub LoadComes : DiskState → DiskState → Result (List ℕ) Fault → Type 0
LoadComes old new (Ok file) = IsLoaded old file
LoadComes old new (Err fault) = LoadFaultComes old new fault

-- the fault of an input that was not read: it is refused, or memory was wanted where no refusal stands for it
abbrev pub unread_fault : ReadFault → Option Refusal → Fault
unread_fault fault refusal = fault_of_tool (fault_or_memory fault refusal)

abbrev pub fault_of_read : ReadFault → Fault
fault_of_read fault = unread_fault fault (read_refusal fault)

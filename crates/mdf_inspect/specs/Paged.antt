-- What is read of a file through pages.
use Rattle.std.specs.Prelude.{ℕ, ◌≡◌, ◌≤◌, List, length, IsSome, IfSome, Result, Ok, Err}
use Rattle.mdf_format.specs.Cause.{Rose}
use Rattle.mdf_num.specs.declared.halt.Halt.{Halt}
use Rattle.mdf_num.specs.declared.halt.Halt.TheVariants as halts
use Rattle.mdf_block.specs.Refusal.{Read, Refuses}
use Rattle.mdf_content.specs.declared.fault.ReadFault.{ReadFault}
use Rattle.mdf_content.specs.Fault.{read_refusal}
use Rattle.mdf_disk.specs.State.{DiskState}
use Rattle.mdf_command.specs.Load.{LoadFaultOf}
use Rattle.mdf_command.specs.declared.fault.Fault.{Fault}
use Rattle.mdf_command.specs.declared.fault.Fault.TheVariants as fault

-- the file that the disk tells, if it tells one, has at most so many bytes, and this holds of it
abbrev pub IfReadOf : ℕ → DiskState → (List ℕ → Type 0) → Type 0
IfReadOf most disk Holds = IfSome disk.content (λ file. (length file ≤ most) × Holds file)

-- Why a reader over pages stopped: their disk failed, or memory was wanted and it did not fail.
abbrev pub StopComes : ℕ → ℕ → Fault → Type 0
StopComes before now fault.Device = Rose before now
StopComes before now fault.Memory = now ≡ before
StopComes before now problem = ⊥

-- or the file is refused
abbrev pub HaltComes : ℕ → ℕ → Halt ReadFault → Fault → Type 0
HaltComes before now (halts.Fault refused) problem = problem ≡ fault.Read refused
HaltComes before now halts.Failed problem = StopComes before now problem
HaltComes before now halts.Memory problem = StopComes before now problem

-- Nothing was read of a file of at most so many bytes only where this holds of its disk before and after: the file is refused, and
-- never for want of memory; or memory was wanted, or the file could not be had, or not all of it.
abbrev pub PagedFaultComes : {A : Type 0} → ℕ → (List ℕ → Read A) → DiskState → DiskState → Fault → Type 0
PagedFaultComes most read old new (fault.Read refused) =
    IsSome (read_refusal refused) × IfReadOf most old (λ file. Refuses (read_refusal refused) (read file))
PagedFaultComes most read old new problem = LoadFaultOf most old new problem

-- This is read of the file that the disk tells, if it tells one; or nothing is, only where that disk says so before and after.
abbrev pub PagedComes : {A : Type 0} → ℕ → (List ℕ → Read A) → DiskState → DiskState → Result A Fault → Type 0
PagedComes most read old new (Ok found) = IfReadOf most old (λ file. read file ≡ Ok found)
PagedComes most read old new (Err problem) = PagedFaultComes most read old new problem

-- The command `concat A B OUT`.
use Rattle.std.specs.Prelude.{ℕ, ◌≡◌, ◌⊎◌, List, IsSome, Ok}
use Rattle.mdf_format.specs.Cause.{Rose}
use Rattle.mdf_block.specs.Refusal.{Fails}
use Rattle.mdf_content.specs.Fault.{read_refusal}
use Rattle.mdf_content.specs.declared.fault.ReadFault.{ReadFault}
use Rattle.mdf_disk.specs.State.{DiskState}
use Rattle.mdf_model.specs.Identified.{IsIdentified}
use Rattle.mdf_model.specs.Measurement.{Measured, measurement}
use Rattle.mdf_port.specs.State.{SinkState}
use Rattle.mdf_make.specs.declared.said.Said.{Said}
use Rattle.tool_concat.specs.Concat.{Differs, IsConcatOf, Joining, TooWide}
use Rattle.tool_concat.specs.declared.fault.ConcatFault.{ConcatFault}
use Rattle.tool_concat.specs.declared.fault.ConcatFault.TheVariants as concat
use Rattle.mdf_command.specs.Load.{IsCalm, IsLoaded, IsOver, LoadWants}
use Rattle.mdf_command.specs.declared.fault.Fault.{Fault}
use Rattle.mdf_command.specs.declared.fault.Fault.TheVariants as fault
use Rattle.mdf_make.specs.Making.{EndsMaking, Inputs}
use Rattle.mdf_make.specs.Tool.{WithoutRest}

-- it makes the sorted file of the joined measurement of two files, at a time in ns
abbrev pub Joins : Joining → List ℕ → Said → Type 0
Joins asked = WithoutRest (IsConcatOf asked)

-- the fault of the command; one of the second file is told as one of the first
abbrev pub fault_of_concat : ConcatFault → Fault
fault_of_concat (concat.First refused) = fault.Read refused
fault_of_concat (concat.Second refused) = fault.Read refused
fault_of_concat (concat.Differs group) = fault.Differs group
fault_of_concat (concat.Wide group channel) = fault.Wide group channel
fault_of_concat concat.Failed = fault.Device
fault_of_concat concat.Memory = fault.Memory

-- the file is refused with this fault, the first one of its measurement
abbrev pub IsRefusedWith : List ℕ → ReadFault → Type 0
IsRefusedWith file refused = IsSome (read_refusal refused) × Fails (read_refusal refused) (measurement file)

-- the first file is refused; or it is read, and the second one is refused
abbrev pub OneIsRefused : Joining → ReadFault → Type 0
OneIsRefused asked refused = IsRefusedWith asked.first refused
    ⊎ (((one : Measured) × (measurement asked.first ≡ Ok one)) × IsRefusedWith asked.second refused)

-- It refuses files of which one is refused, or of which groups differ, or of which an offset is not held once it is moved. It
-- wants memory only where the first is identified as a finalized file.
abbrev pub AreNotJoined : Joining → Fault → Type 0
AreNotJoined asked (fault.Read refused) = OneIsRefused asked refused
AreNotJoined asked (fault.Differs group) = Differs asked group
AreNotJoined asked (fault.Wide group channel) = TooWide asked group channel
AreNotJoined asked fault.Memory = IsIdentified asked.first
AreNotJoined asked _ = ⊥

-- both files are loaded from their disks, and a file is made of them at this time
pub record AreBothLoaded (now_ns : ℕ) (disk other : DiskState) (asked : Joining) : Type 0 where
  pub first : IsLoaded disk asked.first
  pub second : IsLoaded other asked.second
  pub now : asked.now ≡ now_ns

-- the second disk is asked for nothing where the file of the first is not loaded
abbrev pub OneIsOver : DiskState → DiskState → DiskState → ℕ → ℕ → Type 0
OneIsOver disk other other' size limit = (IsOver disk size limit × (other' ≡ other))
    ⊎ (((file : List ℕ) × IsLoaded disk file) × IsOver other size limit)

abbrev pub OneFailed : DiskState → DiskState → DiskState → DiskState → Type 0
OneFailed disk disk' other other' = (Rose disk.faults disk'.faults × (other' ≡ other))
    ⊎ (((file : List ℕ) × IsLoaded disk file) × Rose other.faults other'.faults)

-- the second disk is asked for nothing where the file of the first is not loaded
abbrev pub OneWants : DiskState → DiskState → DiskState → DiskState → Type 0
OneWants disk disk' other other' = (LoadWants disk disk' × (other' ≡ other))
    ⊎ (((file : List ℕ) × IsLoaded disk file) × IsCalm disk disk' × LoadWants other other')

abbrev pub BothAreCalm : DiskState → DiskState → DiskState → DiskState → Type 0
BothAreCalm disk disk' other other' = IsCalm disk disk' × IsCalm other other'

-- two inputs, of which a file is made at a time in ns
abbrev pub two_inputs : ℕ → DiskState → DiskState → DiskState → DiskState → Inputs Joining
two_inputs now disk disk' other other' = record {
  AreLoaded = AreBothLoaded now disk other;
  Failed = OneFailed disk disk' other other';
  AreCalm = BothAreCalm disk disk' other other';
  IsOver = OneIsOver disk other other';
  Wanted = OneWants disk disk' other other';
}

-- How the command ends, by what the disks of both inputs and of the output and the sink tell before and after.
abbrev pub EndsConcat : ℕ → DiskState → DiskState → DiskState → DiskState → DiskState → DiskState → SinkState → SinkState → ℕ → Type 0
EndsConcat now disk disk' other other' = EndsMaking (two_inputs now disk disk' other other') Joins AreNotJoined

-- The command `sort IN OUT`.
use Rattle.std.specs.Prelude.{ℕ, List, IsSome}
use Rattle.mdf_block.specs.Refusal.{Fails}
use Rattle.mdf_content.specs.Fault.{read_refusal}
use Rattle.mdf_disk.specs.State.{DiskState}
use Rattle.mdf_model.specs.Identified.{IsIdentified}
use Rattle.mdf_model.specs.Measurement.{measurement}
use Rattle.mdf_port.specs.State.{SinkState}
use Rattle.mdf_make.specs.declared.said.Said.{Said}
use Rattle.tool_sort.specs.Sort.{IsSorting}
use Rattle.mdf_make.specs.Making.{EndsMaking, one_input}
use Rattle.mdf_make.specs.Tool.{WithoutRest}
use Rattle.mdf_command.specs.declared.fault.Fault.{Fault}
use Rattle.mdf_command.specs.declared.fault.Fault.TheVariants as fault

-- it makes the sorted file of a file's measurement, at a time in ns
abbrev pub Sorts : ℕ → List ℕ → List ℕ → Said → Type 0
Sorts now file = WithoutRest (IsSorting file now)

-- it refuses a file for the first fault of its measurement, and wants memory only for one that is identified as a finalized file
abbrev pub IsNotMeasured : List ℕ → Fault → Type 0
IsNotMeasured file (fault.Read refused) = IsSome (read_refusal refused) × Fails (read_refusal refused) (measurement file)
IsNotMeasured file fault.Memory = IsIdentified file
IsNotMeasured file _ = ⊥

-- How the command ends, by what the disks of the input and of the output and the sink tell before and after.
abbrev pub EndsSort : ℕ → DiskState → DiskState → DiskState → DiskState → SinkState → SinkState → ℕ → Type 0
EndsSort now disk disk' = EndsMaking (one_input disk disk') (Sorts now) IsNotMeasured

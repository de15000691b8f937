-- The command `cut IN OUT FROM TO`.
use Rattle.std.specs.Prelude.{ℕ, List}
use Rattle.mdf_disk.specs.State.{DiskState}
use Rattle.mdf_port.specs.State.{SinkState}
use Rattle.mdf_make.specs.declared.said.Said.{Said}
use Rattle.tool_cut.specs.Cut.{Cutting, IsCutOf}
use Rattle.mdf_make.specs.Making.{EndsMaking, one_input}
use Rattle.mdf_make.specs.Tool.{WithoutRest}
use Rattle.mdf_make.specs.Sort.{IsNotMeasured}

-- it makes the sorted file of a file's measurement with those records alone whose master lies in a range, at a time in ns
abbrev pub Cuts : Cutting → List ℕ → List ℕ → Said → Type 0
Cuts asked file = WithoutRest (IsCutOf file asked)

-- How the command ends, by what the disks of the input and of the output and the sink tell before and after. It refuses a
-- file for the first fault of its measurement.
abbrev pub EndsCut : Cutting → DiskState → DiskState → DiskState → DiskState → SinkState → SinkState → ℕ → Type 0
EndsCut asked disk disk' = EndsMaking (one_input disk disk') (Cuts asked) IsNotMeasured

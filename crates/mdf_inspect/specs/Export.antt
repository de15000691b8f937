-- The command `export IN GROUP`.
use Rattle.std.specs.Prelude.{ℕ, ◌≡◌, ◌≤◌, ◌⊎◌, Option, IsSome, Result, Ok, Err}
use Rattle.std.specs.Io.KnownBytes.{Appends}
use Rattle.mdf_format.specs.Cause.{Rose}
use Rattle.mdf_num.specs.declared.halt.Halt.{Halt}
use Rattle.mdf_num.specs.declared.halt.Halt.TheVariants as halts
use Rattle.mdf_block.specs.Refusal.{Refusal, Fails}
use Rattle.mdf_content.specs.Fault.{read_refusal}
use Rattle.mdf_disk.specs.State.{DiskState}
use Rattle.mdf_model.specs.Measurement.{measurement}
use Rattle.mdf_model.specs.declared.part.Measure.{Measure}
use Rattle.mdf_port.specs.State.{SinkState}
use Rattle.tool_export.specs.Export.{GaveFront, HasNoGroup, IsGroupOf}
use Rattle.tool_export.specs.Table.{table_of}
use Rattle.tool_export.specs.declared.fault.ExportFault.{ExportFault}
use Rattle.tool_export.specs.declared.fault.ExportFault.TheVariants as export
use Rattle.mdf_command.specs.Texts.{Prints}
use Rattle.mdf_command.specs.Faults.{READING_LIMIT, fault_line, fault_status}
use Rattle.mdf_command.specs.Load.{IsOverOf, LoadWantsOf}
use Rattle.mdf_command.specs.declared.fault.Fault.{Fault}
use Rattle.mdf_command.specs.declared.fault.Fault.TheVariants as fault
use Rattle.mdf_inspect.specs.Paged.{StopComes}
use Rattle.mdf_inspect.specs.Reading.{IfRead}
use Rattle.mdf_inspect.specs.declared.table.TableEnd.{TableEnd}
use Rattle.mdf_inspect.specs.declared.table.TableEnd.TheVariants.{Given, Unwritten, Refused}

-- the whole table of the group of this number was given, which has so many samples
abbrev pub IsExported : DiskState → ℕ → SinkState → SinkState → ℕ → Type 0
IsExported disk group sink sink' rows =
    IfRead disk (λ file. (measure : Measure) × IsGroupOf file group measure × (rows ≡ measure.count) × Appends sink.held sink'.held (table_of measure))

-- a front of it was given
abbrev pub GaveFrontOf : DiskState → ℕ → SinkState → SinkState → Type 0
GaveFrontOf disk group sink sink' = IfRead disk (λ file. GaveFront file group sink sink')

-- nothing was given, or a front, and the sink did not fail
abbrev pub GaveAtMostFront : DiskState → ℕ → SinkState → SinkState → Type 0
GaveAtMostFront disk group sink sink' = (sink' ≡ sink) ⊎ (GaveFrontOf disk group sink sink' × (sink'.faults ≡ sink.faults))

-- the input is refused, for the first fault of its measurement
abbrev pub IsUnmeasured : DiskState → Option Refusal → Type 0
IsUnmeasured disk refusal = IsSome refusal × IfRead disk (λ file. Fails refusal (measurement file))

-- it has so many groups, and none of this number
abbrev pub LacksGroup : DiskState → ℕ → ℕ → Type 0
LacksGroup disk group groups = (groups ≤ group) × IfRead disk (λ file. HasNoGroup file group groups)

-- Not all of the table was given for this fault only where this holds of the disk of the input and of the sink, before and
-- then: the disk failed, or memory was wanted and the disk did not fail, and at most a front of the table was given; or the
-- input is too long or is refused or has no such group, and nothing was given.
abbrev pub TableFaultComes : ℕ → DiskState → DiskState → SinkState → SinkState → Fault → Type 0
TableFaultComes group old new sink sink' fault.Device = Rose old.faults new.faults × GaveAtMostFront old group sink sink'
TableFaultComes group old new sink sink' (fault.InputOver size limit) = IsOverOf READING_LIMIT old size limit × (sink' ≡ sink)
TableFaultComes group old new sink sink' fault.Memory = LoadWantsOf READING_LIMIT old new × GaveAtMostFront old group sink sink'
TableFaultComes group old new sink sink' (fault.Read refused) = IsUnmeasured old (read_refusal refused) × (sink' ≡ sink)
TableFaultComes group old new sink sink' (fault.NoGroup said groups) = (said ≡ group) × LacksGroup old group groups × (sink' ≡ sink)
TableFaultComes group old new sink sink' _ = ⊥

-- The table ends so only where this holds.
abbrev pub TableComes : ℕ → DiskState → DiskState → SinkState → SinkState → TableEnd → Type 0
TableComes group old new sink sink' (Given rows) = IsExported old group sink sink' rows
TableComes group old new sink sink' Unwritten = GaveFrontOf old group sink sink' × Rose sink.faults sink'.faults
TableComes group old new sink sink' (Refused fault) = TableFaultComes group old new sink sink' fault

-- how a table ends whose reader over pages stopped, and whatever it answered; want of memory is no fault of a file
abbrev pub StopsTable : ℕ → ℕ → TableEnd → Type 0
StopsTable before now (Refused problem) = StopComes before now problem
StopsTable before now end = ⊥

abbrev pub TableAnswers : ℕ → ℕ → Result ℕ (Halt ExportFault) → TableEnd → Type 0
TableAnswers before now (Ok rows) end = end ≡ Given rows
TableAnswers before now (Err (halts.Fault (export.Read refused))) end = end ≡ Refused (fault.Read refused)
TableAnswers before now (Err (halts.Fault (export.NoGroup said groups))) end = end ≡ Refused (fault.NoGroup said groups)
TableAnswers before now (Err (halts.Fault export.Failed)) end = end ≡ Unwritten
TableAnswers before now (Err (halts.Fault export.Memory)) end = Unit {0}
TableAnswers before now (Err halts.Failed) end = StopsTable before now end
TableAnswers before now (Err halts.Memory) end = StopsTable before now end

-- What is printed behind the table, and the status: nothing, where all of it was given or the sink failed; else why it is
-- not whole.
abbrev pub PrintsEnd : TableEnd → SinkState → SinkState → ℕ → Type 0
PrintsEnd (Given rows) sink sink' status = (sink' ≡ sink) × (status ≡ 0)
PrintsEnd Unwritten sink sink' status = (sink' ≡ sink) × (status ≡ 6)
PrintsEnd (Refused fault) sink sink' status = Prints (fault_line fault) (fault_status fault) sink sink' status

-- How the command ends, by what the disk of the input and the sink tell before and after.
abbrev pub EndsExport : ℕ → DiskState → DiskState → SinkState → SinkState → ℕ → Type 0
EndsExport group disk disk' sink sink' status =
    (end : TableEnd) × (between : SinkState) × TableComes group disk disk' sink between end × PrintsEnd end between sink' status

-- How `export` ends, and what it gave of the table then.
use Rattle.std.specs.Prelude.{ℕ, ◌≡◌, ◌≤◌, ◌⊎◌, List, length, slice_get, Option, Some, None, Result, Ok, Err, OnOk, OnErr, IsSome}
use Rattle.std.specs.Io.KnownBytes.{Appends}
use Rattle.mdf_format.specs.Cause.{Rose}
use Rattle.mdf_num.specs.declared.failure.Failed.{Failed}
use Rattle.mdf_num.specs.declared.halt.Halt.{Halt}
use Rattle.mdf_num.specs.declared.halt.Halt.TheVariants as halts
use Rattle.mdf_block.specs.Refusal.{Fails}
use Rattle.mdf_content.specs.Fault.{read_refusal}
use Rattle.mdf_content.specs.declared.fault.ReadFault.{ReadFault}
use Rattle.mdf_block.specs.Refusal.{Refusal}
use Rattle.mdf_model.specs.declared.part.Measure.{Measure}
use Rattle.mdf_model.specs.Identified.{IsIdentified}
use Rattle.mdf_model.specs.Measurement.{Measured, measurement}
use Rattle.mdf_port.specs.Sink.{AppendsFront}
use Rattle.mdf_port.specs.State.{SinkState}
use Rattle.mdf_model.specs.InWords.{IsMeasurement}
use Rattle.tool_export.specs.declared.fault.ExportFault.{ExportFault}
use Rattle.tool_export.specs.declared.fault.ExportFault.TheVariants as export
use Rattle.tool_export.specs.Table.{table_of}

-- the fault of a reader's, which is want of memory where no refusal of the file stands for it
abbrev pub fault_or_memory : ReadFault → Option Refusal → ExportFault
fault_or_memory fault None = export.Memory
fault_or_memory fault (Some refusal) = export.Read fault

abbrev pub fault_of_read : ReadFault → ExportFault
fault_of_read fault = fault_or_memory fault (read_refusal fault)

-- the fault of a table over bytes in memory, which never failed: that the sink did, or want of memory
abbrev pub fault_of_halt : Halt Failed → ExportFault
fault_of_halt (halts.Fault failed) = export.Failed
fault_of_halt halts.Failed = export.Failed
fault_of_halt halts.Memory = export.Memory

-- the end of an export over a span: of the file that is not read, and of the table
abbrev pub halt_of_read : Halt ReadFault → Halt ExportFault
halt_of_read (halts.Fault fault) = halts.Fault (export.Read fault)
halt_of_read halts.Failed = halts.Failed
halt_of_read halts.Memory = halts.Memory

abbrev pub halt_of_table : Halt Failed → Halt ExportFault
halt_of_table (halts.Fault failed) = halts.Fault export.Failed
halt_of_table halts.Failed = halts.Failed
halt_of_table halts.Memory = halts.Memory

-- A call that gives this text answers so: all of it was given, or a front of it.
pub record GivesText (text : List ℕ) (old new : SinkState) (result : Result Unit (Halt Failed)) : Type 0 where
  pub ok : OnOk result (Appends old.held new.held text)
  pub err : OnErr result (AppendsFront old.held new.held text)

-- A sink's count of faults rose where the call answers that the sink failed, and stayed else: neither the span's failure nor
-- want of memory stands for a fault of the sink.
abbrev pub SinkReason : ℕ → ℕ → Result Unit (Halt Failed) → Type 0
SinkReason before now (Ok done) = now ≡ before
SinkReason before now (Err (halts.Fault failed)) = Rose before now
SinkReason before now (Err halts.Failed) = now ≡ before
SinkReason before now (Err halts.Memory) = now ≡ before

pub record SinkCause (before now : ℕ) (result : Result Unit (Halt Failed)) : Type 0 where
  pub later : before ≤ now
  pub reason : SinkReason before now result

-- it speaks of the sink or of memory, and not of the span that the samples are read out of
abbrev pub IsOfSink : Halt Failed → Type 0
IsOfSink (halts.Fault failed) = Unit {0}
IsOfSink halts.Failed = ⊥
IsOfSink halts.Memory = Unit {0}

-- the group of this number of a file's measurement, counted from 0 over the groups whose records are samples
pub record IsGroupOf (file : List ℕ) (group : ℕ) (measure : Measure) : Type 0 where
  pub found : Measured
  pub is_read : measurement file ≡ Ok found
  pub is : IsMeasurement file found.head found.history found.groups
  pub there : slice_get found.groups group ≡ Some measure

-- a front of the table of the group was given
pub record GaveFront (file : List ℕ) (group : ℕ) (old new : SinkState) : Type 0 where
  pub measure : Measure
  pub is : IsGroupOf file group measure
  pub front : AppendsFront old.held new.held (table_of measure)

-- a file's measurement has so many groups, and none of this number
pub record HasNoGroup (file : List ℕ) (group groups : ℕ) : Type 0 where
  pub found : Measured
  pub is_read : measurement file ≡ Ok found
  pub count : groups ≡ length found.groups
  pub past : groups ≤ group

-- the fault says so of this number, where there are so many groups
abbrev pub NamesNone : ℕ → ℕ → ExportFault → Type 0
NamesNone said groups (export.NoGroup number count) = (number ≡ said) × (count ≡ groups) × (count ≤ said)
NamesNone said groups _ = ⊥

-- How it ends, by what the sink tells before and after: the table of the group was given, and there are so many samples;
-- or the file is refused, for its first fault, or has no such group, and nothing was given; or the sink failed; or memory
-- was wanted for a file that is identified, and the sink did not fail.
abbrev pub ExportEnds : List ℕ → ℕ → SinkState → SinkState → Result ℕ ExportFault → Type 0
ExportEnds file group old new (Ok rows) =
    (measure : Measure) × IsGroupOf file group measure × (rows ≡ measure.count) × Appends old.held new.held (table_of measure)
ExportEnds file group old new (Err (export.Read fault)) =
    IsSome (read_refusal fault) × Fails (read_refusal fault) (measurement file) × (new ≡ old)
ExportEnds file group old new (Err (export.NoGroup said groups)) = (said ≡ group) × HasNoGroup file group groups × (new ≡ old)
ExportEnds file group old new (Err export.Failed) = GaveFront file group old new × Rose old.faults new.faults
ExportEnds file group old new (Err export.Memory) = IsIdentified file × ((new ≡ old) ⊎ (GaveFront file group old new × (new.faults ≡ old.faults)))

-- nothing was given, or a front of the table of the group, and the sink did not fail
abbrev pub GaveAtMost : List ℕ → ℕ → SinkState → SinkState → Type 0
GaveAtMost file group old new = (new ≡ old) ⊎ (GaveFront file group old new × (new.faults ≡ old.faults))

-- How it ends over a span of the file: the same of the table, of the file and of the sink; and where the span failed, or
-- memory was wanted, at most a front of the table was given.
abbrev pub ExportHalts : List ℕ → ℕ → SinkState → SinkState → Result ℕ (Halt ExportFault) → Type 0
ExportHalts file group old new (Ok rows) = ExportEnds file group old new (Ok rows)
ExportHalts file group old new (Err (halts.Fault fault)) = ExportEnds file group old new (Err fault)
ExportHalts file group old new (Err halts.Failed) = GaveAtMost file group old new
ExportHalts file group old new (Err halts.Memory) = GaveAtMost file group old new

-- a fault over a span has a refusal that stands for it, or names this number and no more groups than it, or is the sink's;
-- want of memory is never inside it
abbrev pub IsExportFault : ℕ → ExportFault → Type 0
IsExportFault group (export.Read fault) = IsSome (read_refusal fault)
IsExportFault group (export.NoGroup said groups) = (said ≡ group) × (groups ≤ said)
IsExportFault group export.Failed = Unit {0}
IsExportFault group export.Memory = ⊥

abbrev pub IsPlainExport : ℕ → Halt ExportFault → Type 0
IsPlainExport group (halts.Fault fault) = IsExportFault group fault
IsPlainExport group halts.Failed = Unit {0}
IsPlainExport group halts.Memory = Unit {0}

-- What a sink tells before and after, whether or not the span tells its bytes: its count of faults rose where the sink
-- failed, and stayed else; and where the file is refused or has no such group, nothing was given.
abbrev pub FaultMoves : SinkState → SinkState → ExportFault → Type 0
FaultMoves old new (export.Read fault) = new ≡ old
FaultMoves old new (export.NoGroup said groups) = new ≡ old
FaultMoves old new export.Failed = Rose old.faults new.faults
FaultMoves old new export.Memory = new.faults ≡ old.faults

abbrev pub ExportMoves : SinkState → SinkState → Result ℕ (Halt ExportFault) → Type 0
ExportMoves old new (Ok rows) = new.faults ≡ old.faults
ExportMoves old new (Err (halts.Fault fault)) = FaultMoves old new fault
ExportMoves old new (Err halts.Failed) = new.faults ≡ old.faults
ExportMoves old new (Err halts.Memory) = new.faults ≡ old.faults

pub record ExportCause (old new : SinkState) (result : Result ℕ (Halt ExportFault)) : Type 0 where
  pub later : old.faults ≤ new.faults
  pub moves : ExportMoves old new result

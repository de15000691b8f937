-- What the commands `check IN` and `info IN` show of a file.
use Rattle.std.specs.Prelude.{ℕ, Bool, ◌≡◌, ◌↔◌, List, map, IsTrue, IsSome, IfSome, Result, Ok, Err}
use Rattle.mdf_block.specs.Refusal.{Read, ◌>>=◌, Fails}
use Rattle.mdf_head.specs.Ident.{identify}
use Rattle.mdf_group.specs.declared.row.GroupRow.{GroupRow}
use Rattle.mdf_content.specs.declared.fault.ReadFault.{ReadFault}
use Rattle.mdf_content.specs.Fault.{read_refusal}
use Rattle.mdf_model.specs.declared.part.Measure.{Measure}
use Rattle.mdf_model.specs.declared.whole.WholeFound.{WholeFound}
use Rattle.mdf_model.specs.Measurement.{Measured, measurement}
use Rattle.mdf_model.specs.InWords.{IsMeasurement, IsValidFile}
use Rattle.mdf_model.specs.Truth.{IsTrueOfFile}
use Rattle.mdf_paged.specs.Groups.{is_strict, shown_groups}
use Rattle.mdf_disk.specs.State.{DiskState}
use Rattle.mdf_port.specs.State.{SinkState}
use Rattle.mdf_command.specs.Texts.{Prints}
use Rattle.mdf_command.specs.Faults.{READING_LIMIT, end_status, fault_line}
use Rattle.mdf_command.specs.Load.{LoadFaultOf}
use Rattle.mdf_command.specs.declared.fault.Fault.{Fault}
use Rattle.mdf_command.specs.declared.fault.Fault.TheVariants as fault
use Rattle.mdf_inspect.specs.Paged.{IfReadOf}

-- what is shown of a file: its version, its groups, each with how many samples it has, how many links were passed over, and
-- whether it is as the standard has a finalized one
pub record Reading : Type 0 where
  pub version : ℕ
  pub groups : List (GroupRow × ℕ)
  pub dropped : ℕ
  pub strict : Bool

-- of a file of this version with this measurement
abbrev pub group_shown : Measure → GroupRow × ℕ
group_shown group = (group.part.row, group.count)

abbrev pub shown_of : ℕ → Measured → Reading
shown_of version found = record {
  version = version;
  groups = map group_shown found.groups;
  dropped = found.dropped;
  strict = found.strict;
}

-- of what was found of a file, or why nothing was
abbrev pub reading_of : WholeFound → Reading
reading_of all = record {
  version = all.ident.ver;
  groups = shown_groups all;
  dropped = all.tree.dropped;
  strict = is_strict all;
}

abbrev pub reading_end : Result WholeFound Fault → Result Reading Fault
reading_end (Ok all) = Ok (reading_of all)
reading_end (Err fault) = Err fault

-- what is shown of a finalized file, or the first reason to refuse it
unfoldable pub reading : List ℕ → Read Reading
reading file = do
  id ← identify file
  found ← measurement file
  Ok (shown_of id.ver found)

-- the file that the disk tells, if it tells one, is no longer than a file may be that is read piece by piece, and this holds of it
abbrev pub IfRead : DiskState → (List ℕ → Type 0) → Type 0
IfRead = IfReadOf READING_LIMIT

-- The file is refused, and what is said of it is true: of its identification, of a block at the address, or of one of its
-- data groups. It is never refused for want of memory.
pub record IsRefused (refused : ReadFault) (file : List ℕ) : Type 0 where
  pub some : IsSome (read_refusal refused)
  pub is_refused : Fails (read_refusal refused) (reading file)
  pub holds : IfSome (read_refusal refused) (IsTrueOfFile file)

-- Nothing was shown only where this holds of the disk of the input before and after: its file is refused, or memory was
-- wanted, or the file could not be had, or not all of it.
abbrev pub ReadingFaultComes : DiskState → DiskState → Fault → Type 0
ReadingFaultComes old new (fault.Read refused) = IsSome (read_refusal refused) × IfRead old (IsRefused refused)
ReadingFaultComes old new problem = LoadFaultOf READING_LIMIT old new problem

-- What is shown of a file is of its measurement, and it is strict exactly where the file is valid.
pub record IsReading (found : Reading) (file : List ℕ) : Type 0 where
  pub is_read : reading file ≡ Ok found
  pub is : Measured
  pub measured : IsMeasurement file is.head is.history is.groups
  pub shown : found ≡ shown_of found.version is
  pub valid : IsTrue found.strict ↔ IsValidFile file

-- This is shown of the file that the disk of the input tells, if it tells one; or nothing is shown, only where that disk says so
-- before and after.
abbrev pub ReadingComes : DiskState → DiskState → Result Reading Fault → Type 0
ReadingComes old new (Ok found) = IfRead old (IsReading found)
ReadingComes old new (Err fault) = ReadingFaultComes old new fault

-- what a command prints: this text of what is shown of a file, or why nothing is
abbrev pub answer_text : (Reading → List ℕ) → Result Reading Fault → List ℕ
answer_text text (Ok found) = text found
answer_text text (Err fault) = fault_line fault

-- How a command that prints this text of a file ends, by what the disk of the input and the sink tell before and after.
abbrev pub EndsReading : (Reading → List ℕ) → DiskState → DiskState → SinkState → SinkState → ℕ → Type 0
EndsReading text disk disk' sink sink' status =
    (end : Result Reading Fault) × ReadingComes disk disk' end × Prints (answer_text text end) (end_status end) sink sink' status

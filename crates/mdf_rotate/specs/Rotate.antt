-- The command `rotate OUT`.
use Rattle.std.specs.Prelude.{ℕ, ◌≡◌, ◌⊎◌, List, map, Err}
use Rattle.std.specs.List.{AllZip}
use Rattle.mdf_port.specs.State.{SinkState, SourceState}
use Rattle.mdf_disk.specs.State.{DiskState}
use Rattle.acq_script.specs.Stage.{IsScript}
use Rattle.acq_script.specs.declared.script.Script.{Script}
use Rattle.book_rotate.specs.Begin.{IsFirstLarge}
use Rattle.mdf_command.specs.Faults.{fault_line}
use Rattle.mdf_command.specs.Texts.{Prints, usage_line}
use Rattle.mdf_command.specs.declared.fault.Fault.TheVariants.{Memory, SessionFull}
use Rattle.mdf_command.specs.declared.fault.Fault.{Fault}
use Rattle.mdf_record.specs.Record.{Outcome}
use Rattle.mdf_record.specs.Script.{SaysScript, ScriptFaultComes}
use Rattle.mdf_rotate.specs.Course.{BeginComes, Course, end_of}
use Rattle.mdf_rotate.specs.Part.{IsUnused, PartsCome}
use Rattle.mdf_rotate.specs.Text.{Recording, rotate_status, rotate_text}
use Rattle.mdf_rotate.specs.Whole.{KeepsWhole}
use Rattle.mdf_rotate.specs.Words.{AsksNoRotation, AsksToRotate}
use Rattle.mdf_rotate.specs.declared.course.RotateEnd.{RotateEnd}
use Rattle.mdf_rotate.specs.declared.course.RotateEnd.TheVariants.{Faulted, Whole}

-- what was recorded on a disk
abbrev pub recorded_in : Outcome → Recording
recorded_in left = record { history = left.history; marks = left.marks }

-- nothing was recorded on any disk
abbrev pub AreUnused : List DiskState → List Outcome → Type 0
AreUnused disks lefts = AllZip IsUnused disks lefts

-- There was no script.
pub record IsUnread (Refuses : Fault → Type 0) (disks : List DiskState) (lefts : List Outcome) (end : RotateEnd) : Type 0 where
  pub fault : Fault
  pub comes : Refuses fault
  pub end_is : end ≡ Faulted fault
  pub unused : AreUnused disks lefts

-- The script was begun, and its parts were recorded, one behind the other. A session is full only where one has no room for a sample of
-- the script, and then nothing is recorded.
pub record IsRotated (Says : Script → Type 0) (output : List ℕ) (now : ℕ) (disks : List DiskState) (lefts : List Outcome) (end : RotateEnd) : Type 0 where
  pub script : Script
  pub says : Says script
  pub is_script : IsScript script
  pub first : Course
  pub begins : BeginComes script first
  pub last : Course
  pub parts : PartsCome output now 0 disks lefts first last
  pub end_is : end ≡ end_of last
  pub keeps : KeepsWhole script now disks lefts end
  pub session : (held size limit : ℕ) → end ≡ Faulted (SessionFull held size limit) → (held ≡ 0) × IsFirstLarge script size limit × AreUnused disks lefts

abbrev pub RotateComes : (Script → Type 0) → (Fault → Type 0) → List ℕ → ℕ → List DiskState → List Outcome → RotateEnd → Type 0
RotateComes Says Refuses output now disks lefts end = IsUnread Refuses disks lefts end ⊎ IsRotated Says output now disks lefts end

-- The script of the source, begun, or why there is none.
abbrev pub CourseComes : SourceState → SourceState → Course → Type 0
CourseComes source source' course =
    ((script : Script) × SaysScript source source' script × IsScript script × BeginComes script course)
    ⊎ ((fault : Fault) × ScriptFaultComes source source' fault × (course ≡ Err (Faulted fault)))

-- For want of memory nothing was begun: this is said, or the usage line of other words.
pub record LacksRoom (words : List (List ℕ)) (sink sink' : SinkState) (status : ℕ) : Type 0 where
  pub usage : AsksNoRotation words → Prints usage_line 1 sink sink' status
  pub memory : (output : List ℕ) → AsksToRotate words output → Prints (fault_line Memory) 7 sink sink' status

-- the status of a rotation that recorded all, though the sink may have failed
abbrev pub IsWholeStatus : ℕ → Type 0
IsWholeStatus status = (status ≡ 0) ⊎ (status ≡ 6)

-- How `rotate OUT` ends, by what the source, the disks and the sink tell before, and what is left.
pub record EndsRotate (source source' : SourceState) (output : List ℕ) (now : ℕ) (disks : List DiskState) (lefts : List Outcome) (sink sink' : SinkState) (status : ℕ) : Type 0 where
  pub end : RotateEnd
  pub comes : RotateComes (SaysScript source source') (ScriptFaultComes source source') output now disks lefts end
  pub printed : Prints (rotate_text (map recorded_in lefts) end) (rotate_status end) sink sink' status
  pub whole : IsWholeStatus status → end ≡ Whole

-- What is said of a run by its words: those of a rotation, or others, with which the usage line is printed and nothing is done.
pub record RotateRuns (words : List (List ℕ)) (source source' : SourceState) (now : ℕ) (disks : List DiskState) (lefts : List Outcome) (sink sink' : SinkState) (status : ℕ) : Type 0 where
  pub usage : AsksNoRotation words → Prints usage_line 1 sink sink' status × AreUnused disks lefts × (source' ≡ source)
  pub rotate : (output : List ℕ) → AsksToRotate words output → EndsRotate source source' output now disks lefts sink sink' status

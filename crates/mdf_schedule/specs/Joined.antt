-- Recordings of the same groups, one behind the other, and the measurements of their finished files, joined.
use Rattle.std.specs.Prelude.{ℕ, ◌≡◌, ◌≢◌, List, [], ◌∷◌, length, Option}
use Rattle.std.specs.List.{AllByRecursion}
use Rattle.mdf_format.specs.declared.form.Form.{Form}
use Rattle.mdf_disk.specs.State.{DiskState}
use Rattle.mdf_disk.specs.Story.{LeftSince}
use Rattle.mdf_group.specs.declared.row.GroupRow.{GroupRow}
use Rattle.mdf_layout.specs.declared.sample.Sample.{Sample}
use Rattle.mdf_model.specs.declared.part.Measure.{Measure}
use Rattle.mdf_model.specs.Measurement.{Measured}
use Rattle.mdf_model.specs.InWords.{IsMeasurement}
use Rattle.mdf_carried.specs.Recovers.{IsReadHead}
use Rattle.tool_final.specs.Keeping.{IsFinalizedRecording}
use Rattle.tool_concat.specs.Joined.{IsJoined}
use Rattle.book_owned.specs.Marks.{durable, last_mark}
use Rattle.acq_script.specs.declared.script.Script.{Script}
use Rattle.mdf_command.specs.declared.fault.Fault.{Fault}
use Rattle.mdf_record.specs.Record.{Outcome}
use Rattle.mdf_record.specs.Recorded.{IsClosed}
use Rattle.mdf_schedule.specs.Outcomes.{IsRecordedTo}
use Rattle.mdf_schedule.specs.Records.{AreBytes}
use Rattle.mdf_schedule.specs.Schedules.{IsLeftOf}

-- the records of each group are bytes
abbrev pub AreOfBytes : List Measure → Type 0
AreOfBytes groups = AllByRecursion (λ (m : Measure). AreBytes m.part.content) groups

-- This is the measurement of the finished file of what a recording of these rows with this start time in ns leaves of these samples, in
-- either form, finalized at any time.
pub record IsFinished (start : ℕ) (rows : List GroupRow) (history : List Sample) (m : Measured) : Type 0 where
  pub form : Form
  pub read : IsReadHead form start rows
  pub file : List ℕ
  pub recording : IsLeftOf form start rows history file
  pub now : ℕ
  pub final : List ℕ
  pub finalized : IsFinalizedRecording file now final
  pub measured : IsMeasurement final m.head m.history m.groups
  pub bytes : AreOfBytes m.groups

-- The command `record` was given a script of these rows at this time in ns and ended with no fault, and this is the measurement of the
-- finished file of what it left.
pub record IsFinishedOf (start : ℕ) (rows : List GroupRow) (left : Outcome) (m : Measured) : Type 0 where
  pub script : Script
  pub of_rows : script.plan.rows ≡ rows
  pub file : List ℕ
  pub recorded : IsRecordedTo script start left file
  pub now : ℕ
  pub final : List ℕ
  pub finalized : IsFinalizedRecording file now final
  pub measured : IsMeasurement final m.head m.history m.groups
  pub bytes : AreOfBytes m.groups

-- A script of these rows was recorded at this time in ns, as the command `record` and each part of a rotation do it, and all samples that
-- were accepted are durable. A crash at some moment since the last mark left a file, and this is the measurement of its finished file.
pub record IsFinishedSince (start : ℕ) (rows : List GroupRow) (left : Outcome) (m : Measured) : Type 0 where
  pub script : Script
  pub of_rows : script.plan.rows ≡ rows
  pub name : List ℕ
  pub disk : DiskState
  pub accepted : List ℕ
  pub samples : ℕ
  pub last : ℕ
  pub live : Option ℕ
  pub fault : Option Fault
  pub seen : List (List Sample)
  pub closed : IsClosed (λ said. said ≡ script) name start disk left accepted samples last live fault seen
  pub begun : left.marks ≢ []
  pub all_durable : durable left.marks ≡ length left.history
  pub file : List ℕ
  pub since : LeftSince left.disk.story (last_mark left.marks).moment file
  pub now : ℕ
  pub final : List ℕ
  pub finalized : IsFinalizedRecording file now final
  pub measured : IsMeasurement final m.head m.history m.groups
  pub bytes : AreOfBytes m.groups

-- the measurement with these joined behind it, one after the other
abbrev pub AreJoinedTo : Measured → List Measured → Measured → Type 0
AreJoinedTo first [] whole = whole ≡ first
AreJoinedTo first (next ∷ later) whole = (both : Measured) × IsJoined first next both × AreOfBytes both.groups × AreJoinedTo both later whole

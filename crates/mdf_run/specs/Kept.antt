-- What `run` keeps of a recording, whatever happens.
use Rattle.std.specs.Prelude.{ℕ, ◌≡◌, ◌≢◌, ◌⊎◌, ◌*◌, ◌<◌, ◌≤◌, List, [], length, drop, Option, Some, Ok, is_some, ◌++◌, None}
use Rattle.std.specs.Io.KnownBytes.{Appends}
use mathlib.Core.List.{IsPrefix}
use Rattle.mdf_disk.specs.State.{DiskState}
use Rattle.mdf_port.specs.State.{SinkState}
use Rattle.mdf_layout.specs.History.{source_samples}
use Rattle.mdf_layout.specs.Record.{history_size}
use Rattle.mdf_layout.specs.declared.sample.Sample.{Sample}
use Rattle.book_owned.specs.Kept.{MarksHold, StartHolds}
use Rattle.book_owned.specs.Marks.{AreRising, durable}
use Rattle.book_owned.specs.declared.mark.Mark.{Mark}
use Rattle.acq_script.specs.Script.{script_of}
use Rattle.acq_script.specs.Tasks.{samples_of}
use Rattle.acq_script.specs.declared.script.Script.{Script}
use Rattle.acq_script.specs.Generated.{generated_script}
use Rattle.mdf_command.specs.Words.{Asks, joined, recorded}
use Rattle.mdf_command.specs.declared.command.Union.{Union}
use Rattle.mdf_command.specs.declared.command.Origin.TheVariants.{Source, Generated}
use Rattle.mdf_attach.specs.declared.attachment.Attachment.{Attachment}
use Rattle.mdf_attach.specs.Stands.{AreAttachments, AreFew}
use Rattle.tool_complete.specs.Completed.{completion}
use Rattle.mdf_model.specs.Measurement.{Measured, measurement}
use Rattle.tool_concat.specs.Difference.{AreAlike}
use Rattle.tool_concat.specs.Wide.{NoneWideTo}
use Rattle.mdf_record.specs.Causes.{HaveCauses}
use Rattle.mdf_record.specs.Head.{script_head}
use Rattle.mdf_record.specs.Record.{AreAccepted, IsComplete, OfSources, live_of, live_text, summary_text}
use Rattle.mdf_record.specs.Sources.{AreOwnMarked}

-- Where the words ask for a recording this holds of its script: that of the source, where it tells its bytes and they are
-- one, or the generated one.
abbrev pub OfRecording : List (List ℕ) → Option (List ℕ) → (Script → Type 0) → Type 0
OfRecording words left P =
    ((name : List ℕ) → Asks words (recorded name Source) → (text : List ℕ) → left ≡ Some text → (script : Script) → script_of text ≡ Ok script → P script)
    × ((samples : ℕ) (name : List ℕ) → Asks words (recorded name (Generated samples)) → P (generated_script samples))

-- the words ask for a file to be made of two
abbrev pub AsksToJoin : List (List ℕ) → Type 0
AsksToJoin words = (input second output : List ℕ) × (union : Union) × Asks words (joined input second output union)

-- this holds where the words ask for a recording
abbrev pub IfRecorded : List (List ℕ) → Type 0 → Type 0
IfRecorded words P =
    ((name : List ℕ) → Asks words (recorded name Source) → P) × ((samples : ℕ) (name : List ℕ) → Asks words (recorded name (Generated samples)) → P)

-- they ask for none
abbrev pub RecordsNothing : List (List ℕ) → Type 0
RecordsNothing words =
    ((name : List ℕ) → ¬ Asks words (recorded name Source)) × ((samples : ℕ) (name : List ℕ) → ¬ Asks words (recorded name (Generated samples)))

-- the status of a command that did what it was asked for, though the sink may have failed
abbrev pub IsDone : ℕ → Type 0
IsDone status = (status ≡ 0) ⊎ (status ≡ 6)

-- the status of a command that did what it was asked for, or for which a disk failed or memory was wanted
abbrev pub IsDoneOrLacked : ℕ → Type 0
IsDoneOrLacked status = (status ≡ 0) ⊎ ((status ≡ 4) ⊎ ((status ≡ 6) ⊎ (status ≡ 7)))

-- A recording was begun, since it has marks, and no disk failed: that of a full session has status 5, and that for which
-- memory was wanted 7.
abbrev pub HasSaved : ℕ → List Mark → Type 0
HasSaved status marks = (0 < length marks) × (status ≢ 4)

-- A recording that did what it was asked for, or that was begun and in which no disk failed, has marks, and all that was
-- accepted is durable.
abbrev pub IsDurable : ℕ → List Sample → List Mark → Type 0
IsDurable status history marks = IsDone status ⊎ HasSaved status marks → (0 < length marks) × (durable marks ≡ length history)

-- the file is a finalized one that is read
pub record IsMeasured (file : List ℕ) : Type 0 where
  pub found : Measured
  pub is_read : measurement file ≡ Ok found

-- the file is one that another tool left unfinished, and its completed file is read
pub record IsCompletable (file : List ℕ) : Type 0 where
  pub found : Measured × ℕ
  pub is_read : completion file ≡ Ok found

-- a finalized file that is read has a group of this number
pub record HasGroup (file : List ℕ) (group : ℕ) : Type 0 where
  pub found : Measured
  pub is_read : measurement file ≡ Ok found
  pub there : group < length found.groups

-- both files are finalized ones that are read, their groups are the same, and each offset is held once it is moved
pub record AreJoinable (one two : List ℕ) : Type 0 where
  pub first : Measured
  pub second : Measured
  pub first_is_read : measurement one ≡ Ok first
  pub second_is_read : measurement two ≡ Ok second
  pub alike : AreAlike first.groups second.groups
  pub held : NoneWideTo first.groups second.groups (length first.groups)

-- the attachments of a file are read, and they are few enough
pub record IsListable (file : List ℕ) : Type 0 where
  pub rows : List Attachment
  pub attached : AreAttachments file rows
  pub few : AreFew rows

-- What is printed of a recording of this script that did what it was asked for: a line for each source, the line on the
-- samples, all of which are durable, and just where the script says `live` that on the samples that a reader finds, all too.
pub record IsReported (script : Script) (disk : DiskState) (history : List Sample) (marks : List Mark) (old new : SinkState) : Type 0 where
  pub accepted : List ℕ
  pub accepted_is : AreAccepted script (record { disk = disk; history = history; marks = marks }) accepted
  pub printed : Appends old.held new.held
      (summary_text accepted (length history) (length history) ++ live_text (live_of script.plan.live None (length history)))

-- What is kept of a recording of this script that was begun at this moment of its disk and ended with this status.
pub record Keeps (start now : ℕ) (script : Script) (disk : DiskState) (history : List Sample) (marks : List Mark) (old new : SinkState) (status : ℕ) : Type 0 where
  pub marks_hold : MarksHold script.plan.shapes (script_head now script) disk.story disk.moment history marks
  pub start_holds : StartHolds script.plan.shapes (script_head now script) disk.story start history
  pub marks_rise : (marks ≡ []) ⊎ AreRising (is_some disk.story) marks
  pub own_prefix : OfSources script (λ source tasks. IsPrefix (source_samples script.plan.owners history source) (samples_of tasks))
  pub flush_lines : OfSources script (λ source tasks. AreOwnMarked script.plan.owners source history marks
      (λ n. n < length (source_samples script.plan.owners history source)) [] tasks)
  pub causes : (marks ≡ []) ⊎ HaveCauses script history marks
  pub pending : history_size script.plan.shapes (drop (durable marks) history) ≤ 2 * script.plan.block
  pub complete : IsDone status → IsComplete script (record { disk = disk; history = history; marks = marks })
  pub reported : status ≡ 0 → IsReported script disk history marks old new

-- What is left when `record OUT` has run.
use Rattle.std.specs.Prelude.{ℕ, ◌≡◌, ◌≤◌, ◌⊎◌, true, false, List, [], length, Option, Some, None, is_some, IfSome}
use Rattle.mdf_port.specs.State.{SinkState, SourceState}
use Rattle.mdf_disk.specs.State.{DiskState, state_of}
use Rattle.mdf_disk.specs.Crash.{HoldsSince}
use Rattle.book_owned.specs.Members.{DiskOf}
use Rattle.mdf_disk.specs.declared.role.Role.TheVariants.{Create}
use Rattle.mdf_format.specs.Cause.{Rose}
use Rattle.mdf_layout.specs.Record.{history_cost}
use Rattle.mdf_layout.specs.Stock.{Stock}
use Rattle.mdf_layout.specs.declared.sample.Sample.{Sample}
use Rattle.mdf_gate.specs.Gated.{Gated}
use Rattle.mdf_gate.specs.Images.{IsBegun, head_of}
use Rattle.book_owned.specs.Account.{Account}
use Rattle.book_owned.specs.Kept.{HoldsDurable, IsKept}
use Rattle.acq_run.specs.declared.audience.Audience.{Audience}
use Rattle.book_owned.specs.Marks.{durable}
use Rattle.acq_script.specs.Stage.{IsScript}
use Rattle.acq_script.specs.declared.script.Script.{Script}
use Rattle.mdf_carried.specs.Recovers.{IsReadHead}
use Rattle.acq_script.specs.Generated.{generated_script}
use Rattle.mdf_record.specs.Head.{script_head}
use Rattle.mdf_record.specs.Script.{SaysScript, ScriptFaultComes}
use Rattle.mdf_record.specs.Finish.{FileFaultComes}
use Rattle.mdf_command.specs.Texts.{Prints}
use Rattle.mdf_record.specs.Record.{AreAccepted, CloseComes, IsRecorded, Outcome, WereSeen, live_of, record_status, record_text}
use Rattle.mdf_command.specs.declared.fault.Fault.{Fault}
use Rattle.mdf_command.specs.declared.fault.Fault.TheVariants.{Memory}
use Rattle.mdf_record.specs.declared.record.Recorded.{Recorded}
use Rattle.mdf_record.specs.declared.record.RecordEnd.{RecordEnd}
use Rattle.mdf_record.specs.declared.record.RecordEnd.TheVariants.{Refused, Closed}

-- The script was made, but the file could not be, or the book not be begun: since the start a crash leaves no MDF file, or
-- the head with no opened block. Want of memory does not stand for a fault of the disk.
pub record IsNotBegun (Says : Script → Type 0) (name : List ℕ) (now : ℕ) (disk left : DiskState) (fault : Fault) : Type 0 where
  pub script : Script
  pub says : Says script
  pub begun : HoldsSince left.story disk.moment (IsBegun (script_head now script))
  pub comes : FileFaultComes (script_head now script) disk left fault
  pub asked_is : (left.asked ≡ None) ⊎ (left.asked ≡ Some (name, Create))

-- There was no script: the disk is as before, and since the start a crash leaves no MDF file, whatever head it has.
pub record IsUnread (Refuses : Fault → Type 0) (disk left : DiskState) (fault : Fault) : Type 0 where
  pub comes : Refuses fault
  pub same : left ≡ disk
  pub begun : (head : List ℕ) → HoldsSince left.story disk.moment (IsBegun head)

-- Nothing was recorded.
pub record IsRefused (Says : Script → Type 0) (Refuses : Fault → Type 0) (name : List ℕ) (now : ℕ) (disk : DiskState) (left : Outcome) (fault : Fault) : Type 0 where
  pub history : left.history ≡ []
  pub marks : left.marks ≡ []
  pub comes : IsUnread Refuses disk left.disk fault ⊎ IsNotBegun Says name now disk left.disk fault

-- A book was begun over the script, and this is what each source has seen of the history.
pub record IsClosed (Says : Script → Type 0) (name : List ℕ) (now : ℕ) (disk : DiskState) (left : Outcome) (accepted : List ℕ) (samples last : ℕ) (live : Option ℕ) (fault : Option Fault) (seen : List (List Sample)) : Type 0 where
  pub script : Script
  pub says : Says script
  pub is_script : IsScript script
  pub readable : IsReadHead script.plan.form now script.plan.rows
  pub recorded : IsRecorded script (script_head now script) disk.moment left
  pub accepted_is : AreAccepted script left accepted
  pub samples_is : samples ≡ length left.history
  pub durable_is : last ≡ durable left.marks
  pub live_is : live ≡ live_of script.plan.live fault (length left.history)
  pub saw : WereSeen script left seen
  pub comes : CloseComes script disk.faults left seen fault
  pub asked_is : left.disk.asked ≡ Some (name, Create)

-- What a recording leaves of a script, which says what it is, where a fault may stand in its place.
abbrev pub RecordComes : (Script → Type 0) → (Fault → Type 0) → List ℕ → ℕ → DiskState → Outcome → RecordEnd → Type 0
RecordComes Says Refuses name now disk left (Refused fault) = IsRefused Says Refuses name now disk left fault
RecordComes Says Refuses name now disk left (Closed accepted samples last live fault seen) = IsClosed Says name now disk left accepted.items samples last live fault seen

-- How a recording ends, by what the disk and the sink tell before, and what it left.
abbrev pub EndsRecording : (Script → Type 0) → (Fault → Type 0) → List ℕ → ℕ → DiskState → Outcome → SinkState → SinkState → ℕ → Type 0
EndsRecording Says Refuses name now disk left sink sink' status =
    (end : RecordEnd) × RecordComes Says Refuses name now disk left end
    × Prints (record_text end) (record_status end) sink sink' status

-- `record OUT`: the script is that of the source, which is taken whole.
abbrev pub EndsRecord : SourceState → SourceState → List ℕ → ℕ → DiskState → Outcome → SinkState → SinkState → ℕ → Type 0
EndsRecord source source' = EndsRecording (SaysScript source source') (ScriptFaultComes source source')

-- `gen N OUT`: it is the generated one, for which memory may be wanted.
abbrev pub EndsGenerated : ℕ → List ℕ → ℕ → DiskState → Outcome → SinkState → SinkState → ℕ → Type 0
EndsGenerated samples = EndsRecording (λ script. script ≡ generated_script samples) (λ fault. fault ≡ Memory)

-- the book was closed with this fault
pub record Closes {C : Type 0} (tells : DiskOf C) (book : Account C Audience) (accepted : Stock ℕ) (live : Option ℕ) (fault : Option Fault) (seen : List (List Sample)) (result : Recorded C) : Type 0 where
  pub end_is : result.end ≡ Closed accepted (length book.history) (durable book.marks) live fault seen
  pub disk : result.out ≡ book.disk
  pub history : result.history.items ≡ book.history
  pub marks : result.marks.items ≡ book.marks
  pub kept : IsKept book.terms (state_of tells book.disk) book.history book.marks
  pub within : history_cost book.terms.layouts book.history ≤ book.terms.session_limit
  pub cause : book.stopped ≡ true → Rose book.terms.faults (tells.faults book.disk)
  pub asked_is : tells.asked book.disk ≡ book.terms.asked
  pub told : is_some (tells.story book.disk) ≡ book.terms.told
  pub holds : book.stopped ≡ false → IfSome (tells.content book.disk) (HoldsDurable book.terms book.history book.marks)

-- The tasks of a script were recorded into a file with this head, begun at this moment of its disk, with this count of faults.
pub record HasTasks (script : Script) (head : List ℕ) (start faults : ℕ) (left : Outcome) (accepted : List ℕ) (samples last : ℕ) (live : Option ℕ) (fault : Option Fault) (seen : List (List Sample)) : Type 0 where
  pub recorded : IsRecorded script head start left
  pub accepted_is : AreAccepted script left accepted
  pub samples_is : samples ≡ length left.history
  pub durable_is : last ≡ durable left.marks
  pub live_is : live ≡ live_of script.plan.live fault (length left.history)
  pub saw : WereSeen script left seen
  pub comes : CloseComes script faults left seen fault

-- or no book could be begun over it
abbrev pub RunComes : Script → DiskState → List ℕ → ℕ → ℕ → Outcome → RecordEnd → Type 0
RunComes script disk head start faults left (Refused fault) = (fault ≡ Memory) × (left.disk ≡ disk) × (left.history ≡ []) × (left.marks ≡ [])
RunComes script disk head start faults left (Closed accepted samples last live fault seen) = HasTasks script head start faults left accepted.items samples last live fault seen

pub record HasRun {C : Type 0} (tells : DiskOf C) (script : Script) (file : Gated C) (left : Outcome) (end : RecordEnd) : Type 0 where
  pub comes : RunComes script (state_of tells file.disk) (head_of (tells.story file.disk) file.first) file.start file.faults left end
  pub asked_is : left.disk.asked ≡ tells.asked file.disk
  pub told : is_some left.disk.story ≡ is_some (tells.story file.disk)

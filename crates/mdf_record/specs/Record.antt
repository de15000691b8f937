-- The command `record OUT`.
use Rattle.std.specs.Prelude.{ℕ, ◌≡◌, ◌⊎◌, Bool, true, false, ◌+◌, ◌*◌, ◌≤◌, ◌<◌, List, [], ◌∷◌, ◌++◌, length, codes, slice_get, slice_index, take, drop, All, Option, Some, None, IfSome, is_some, Result, Ok, Err}
use Rattle.std.specs.Fmt.{decimal}
use Rattle.std.specs.List.{slice_index_or}
use mathlib.Core.List.{IsPrefix}
use Rattle.mdf_format.specs.Cause.{Rose}
use Rattle.mdf_disk.specs.State.{DiskState, state_of}
use Rattle.book_owned.specs.Members.{DiskOf}
use Rattle.mdf_layout.specs.History.{group_samples, source_samples}
use Rattle.mdf_layout.specs.Record.{cost_of, history_cost, history_size}
use Rattle.mdf_layout.specs.declared.sample.Sample.{Sample}
use Rattle.mdf_gate.specs.Carried.{IsCarried, IsEncoded}
use Rattle.book_owned.specs.Marks.{durable, AreRising}
use Rattle.book_owned.specs.Kept.{HasBlocksOf, MarksHold, StartHolds}
use Rattle.book_owned.specs.declared.mark.Mark.{Mark}
use Rattle.acq_run.specs.Ran.{AreOwned}
use Rattle.acq_script.specs.Tasks.{samples_of}
use Rattle.acq_script.specs.declared.script.Plan.{Plan}
use Rattle.acq_script.specs.declared.script.Script.{Script}
use Rattle.acq_script.specs.declared.script.Task.{Task}
use Rattle.mdf_command.specs.Texts.{line, numbered}
use Rattle.mdf_command.specs.Faults.{fault_line, fault_status}
use Rattle.mdf_record.specs.Causes.{HaveCauses}
use Rattle.mdf_record.specs.Sources.{AreOwnMarked, HadRoom}
use Rattle.mdf_record.specs.declared.sources.End.{End}
use Rattle.mdf_record.specs.declared.sources.End.TheVariants as end_
use Rattle.mdf_command.specs.declared.fault.Fault.{Fault}
use Rattle.mdf_command.specs.declared.fault.Fault.TheVariants as fault
use Rattle.mdf_record.specs.declared.record.RecordEnd.{RecordEnd}
use Rattle.mdf_record.specs.declared.record.RecordEnd.TheVariants.{Refused, Closed}

-- the line of a source: how many samples it accepted
abbrev pub source_line : ℕ → ℕ → List ℕ
source_line source n = line (codes "source " ∷ decimal source ∷ codes " accepted " ∷ decimal n ∷ [])

-- the line on all samples: how many there are, and how many of them are durable
abbrev pub totals_line : ℕ → ℕ → List ℕ
totals_line samples durable = line (codes "samples " ∷ decimal samples ∷ codes " durable " ∷ decimal durable ∷ [])

-- the lines on the recording
abbrev pub summary_text : List ℕ → ℕ → ℕ → List ℕ
summary_text accepted samples durable = numbered source_line 0 accepted ++ totals_line samples durable

abbrev pub fault_text : Option Fault → List ℕ
fault_text None = []
fault_text (Some fault) = fault_line fault

-- the line of a recording that was looked at live: how many samples a reader finds shown
abbrev pub live_text : Option ℕ → List ℕ
live_text None = []
live_text (Some n) = line (codes "live " ∷ decimal n ∷ [])

-- its number: all samples, where nothing went wrong
abbrev pub live_of : Bool → Option Fault → ℕ → Option ℕ
live_of true None n = Some n
live_of true (Some fault) n = None
live_of false problem n = None

abbrev pub fault_code : Option Fault → ℕ
fault_code None = 0
fault_code (Some fault) = fault_status fault

abbrev pub record_text : RecordEnd → List ℕ
record_text (Refused fault) = fault_line fault
record_text (Closed accepted samples durable live fault seen) = summary_text accepted.items samples durable ++ (live_text live ++ fault_text fault)

abbrev pub record_status : RecordEnd → ℕ
record_status (Refused fault) = fault_status fault
record_status (Closed accepted samples durable live fault seen) = fault_code fault

-- what a recording leaves: its disk, as that tells it, the samples that were accepted, in order, and the marks
pub record Outcome : Type 0 where
  pub disk : DiskState
  pub history : List Sample
  pub marks : List Mark

-- that of a disk, some samples and some marks. In a clause of code that is generic in C: Disk it is `outcome C.Disk out history marks`
abbrev pub outcome : {C : Type 0} → DiskOf C → C → List Sample → List Mark → Outcome
outcome tells out history marks = record { disk = state_of tells out; history = history; marks = marks }

-- All that was accepted is durable, and the file, where its disk tells it, carries just that, with the bits of no channel
-- 0, in blocks that are no longer than the script says.
pub record IsSaved (plan : Plan) (left : Outcome) : Type 0 where
  pub all_durable : durable left.marks ≡ length left.history
  pub holds : IfSome left.disk.content (λ file. IsCarried plan.shapes file left.history × IsEncoded plan.shapes file left.history)
  pub blocks : IfSome left.disk.content (HasBlocksOf plan.block)

-- this holds of each source of the script and its tasks
abbrev pub OfSources : Script → (ℕ → List Task → Type 0) → Type 0
OfSources script P = (source : ℕ) (tasks : List Task) → slice_get script.lists source ≡ Some tasks → P source tasks

-- just the samples of each source's tasks that were accepted are its own, and so many they are
pub record AreAccepted (script : Script) (left : Outcome) (accepted : List ℕ) : Type 0 where
  pub count : length accepted ≡ length script.lists
  pub each : OfSources script (λ source tasks. slice_get accepted source ≡ Some (length (source_samples script.plan.owners left.history source)))

-- all of a source's samples were accepted, and each of its flushes has its mark
pub record IsWhole (script : Script) (left : Outcome) (source : ℕ) (tasks : List Task) : Type 0 where
  pub history_is : source_samples script.plan.owners left.history source ≡ samples_of tasks
  pub flush_lines : AreOwnMarked script.plan.owners source left.history left.marks (λ n. Unit {0}) [] tasks

-- The whole script was recorded and saved, each flush has its mark, the samples of each group are the script's, in its order,
-- and all of them cost no more than the session limit.
pub record IsComplete (script : Script) (left : Outcome) : Type 0 where
  pub whole : OfSources script (λ source tasks. IsWhole script left source tasks)
  pub groups : OfSources script (λ source tasks. (group : ℕ) → slice_index script.plan.owners group ≡ source
      → group_samples left.history group ≡ group_samples (samples_of tasks) group)
  pub cost : history_cost script.plan.shapes left.history ≤ script.plan.session
  pub saved : IsSaved script.plan left

-- the first sample of a source that was not accepted
abbrev pub IsNext : Script → Outcome → ℕ → List Task → Sample → Type 0
IsNext script left source tasks sample =
    slice_get (samples_of tasks) (length (source_samples script.plan.owners left.history source)) ≡ Some sample

-- A source has seen this at its last turn: a beginning of the history that has all of its own samples, and for each flush before
-- the last of them a mark that goes no further.
pub record HasSeen (script : Script) (left : Outcome) (source : ℕ) (tasks : List Task) (seen : List Sample) : Type 0 where
  pub begins : IsPrefix seen left.history
  pub all_own : source_samples script.plan.owners seen source ≡ source_samples script.plan.owners left.history source
  pub flush_lines : AreOwnMarked script.plan.owners source seen left.marks
      (λ n. n < length (source_samples script.plan.owners left.history source)) [] tasks

-- This is what each source has seen, in the order of their numbers.
pub record HaveSeen (script : Script) (left : Outcome) (seen : List (List Sample)) : Type 0 where
  pub count : length seen ≡ length script.lists
  pub each : OfSources script (λ source tasks. HasSeen script left source tasks (slice_index_or seen source []))

-- The work of a source ended at its next sample, behind what the source had then seen.
pub record EndedAt (script : Script) (left : Outcome) (source : ℕ) (tasks : List Task) (seen : List Sample) : Type 0 where
  pub sample : Sample
  pub next : IsNext script left source tasks sample
  pub saw : HasSeen script left source tasks seen

-- that sample would have passed the session limit
pub record LackedRoom (script : Script) (left : Outcome) (source : ℕ) (tasks : List Task) (seen : List Sample) (held size limit : ℕ) : Type 0 where
  pub at : EndedAt script left source tasks seen
  pub held_is : held ≡ history_cost script.plan.shapes seen
  pub size_is : size ≡ cost_of script.plan.shapes at.sample
  pub limit_is : limit ≡ script.plan.session
  pub over : limit < held + size

-- the session had room for that sample, but memory was wanted for it
pub record LackedMemory (script : Script) (left : Outcome) (source : ℕ) (tasks : List Task) (seen : List Sample) : Type 0 where
  pub at : EndedAt script left source tasks seen
  pub room : history_cost script.plan.shapes seen + cost_of script.plan.shapes at.sample ≤ script.plan.session

-- How a source ends that has seen this of the history, where the disk did not fail: all was done, its next sample had no room,
-- or memory was wanted for it.
abbrev pub SourceComes : Script → Outcome → ℕ → List Task → List Sample → Result Unit End → Type 0
SourceComes script left source tasks seen (Ok done) = IsWhole script left source tasks
SourceComes script left source tasks seen (Err (end_.SessionFull held size limit)) = LackedRoom script left source tasks seen held size limit
SourceComes script left source tasks seen (Err end_.Stopped) = ⊥
SourceComes script left source tasks seen (Err end_.Memory) = LackedMemory script left source tasks seen

-- These are the ends of the sources, in the order of their numbers, where each has seen this of the history, and all that was
-- accepted is saved.
pub record AreEnds (script : Script) (left : Outcome) (seen : List (List Sample)) (ends : List (Result Unit End)) : Type 0 where
  pub count : length ends ≡ length script.lists
  pub each : OfSources script (λ source tasks. IfSome (slice_get ends source) (SourceComes script left source tasks (slice_index_or seen source [])))
  pub saved : IsSaved script.plan left

-- The numbers are those of the first source that had no room.
pub record IsFull (script : Script) (left : Outcome) (seen : List (List Sample)) (held size limit : ℕ) : Type 0 where
  pub ends : List (Result Unit End)
  pub are : AreEnds script left seen ends
  pub source : ℕ
  pub told : slice_get ends source ≡ Some (Err (end_.SessionFull held size limit))
  pub first : All HadRoom (take source ends)

-- All sources had room, but memory was wanted for the next sample of one.
pub record IsShort (script : Script) (left : Outcome) (seen : List (List Sample)) : Type 0 where
  pub ends : List (Result Unit End)
  pub are : AreEnds script left seen ends
  pub source : ℕ
  pub wanted : slice_get ends source ≡ Some (Err end_.Memory)
  pub room : All HadRoom ends

-- All was recorded and saved, and there are samples, but memory was wanted to show all of them to those who look.
abbrev pub IsUnshown : Script → Outcome → Type 0
IsUnshown script left = (script.plan.live ≡ true) × IsComplete script left × (0 < length left.history)

-- No source could work, for want of memory: no sample was accepted, and there is the first mark alone.
pub record IsIdle (script : Script) (left : Outcome) : Type 0 where
  pub none : left.history ≡ []
  pub one : length left.marks ≡ 1
  pub saved : IsSaved script.plan left

-- This is what each source has seen, or none could work and there is nothing.
abbrev pub WereSeen : Script → Outcome → List (List Sample) → Type 0
WereSeen script left seen = HaveSeen script left seen ⊎ (IsIdle script left × (seen ≡ []))

-- How a recording that was begun ends, where the disk's count of faults was `faults` before and each source has seen this of the
-- history: all was done, the disk failed, the session is full, or memory was wanted for a sample, for a view or for the sources
-- to work at all. All that was accepted is saved but where the disk failed.
abbrev pub CloseComes : Script → ℕ → Outcome → List (List Sample) → Option Fault → Type 0
CloseComes script faults left seen None = IsComplete script left
CloseComes script faults left seen (Some fault.Device) = Rose faults left.disk.faults
CloseComes script faults left seen (Some (fault.SessionFull held size limit)) = IsFull script left seen held size limit
CloseComes script faults left seen (Some fault.Memory) = IsShort script left seen ⊎ (IsUnshown script left ⊎ IsIdle script left)
CloseComes script faults left seen (Some _) = ⊥

-- What a recording of this script keeps, whatever happened: of its marks, of what a crash since its start may leave, of the
-- samples and the flushes of each source, that each sample is of a group of the script which one of its sources owns, that all
-- samples cost no more than the session limit, and that the records of those that are not durable fit into two blocks.
pub record IsRecorded (script : Script) (head : List ℕ) (start : ℕ) (left : Outcome) : Type 0 where
  pub marks_hold : MarksHold script.plan.shapes head left.disk.story left.disk.moment left.history left.marks
  pub start_holds : StartHolds script.plan.shapes head left.disk.story start left.history
  pub marks_rise : AreRising (is_some left.disk.story) left.marks
  pub owned : AreOwned script.plan.owners (length script.plan.shapes) script.plan.sources left.history
  pub own_prefix : OfSources script (λ source tasks. IsPrefix (source_samples script.plan.owners left.history source) (samples_of tasks))
  pub flush_lines : OfSources script (λ source tasks. AreOwnMarked script.plan.owners source left.history left.marks
      (λ n. n < length (source_samples script.plan.owners left.history source)) [] tasks)
  pub causes : HaveCauses script left.history left.marks
  pub cost : history_cost script.plan.shapes left.history ≤ script.plan.session
  pub pending : history_size script.plan.shapes (drop (durable left.marks) left.history) ≤ 2 * script.plan.block

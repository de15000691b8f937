-- The parts of a log, one behind the other.
use Rattle.std.specs.Prelude.{ℕ, ◌≡◌, ◌+◌, ◌-◌, ◌^◌, ◌<◌, ◌⊎◌, Bool, true, false, List, [], ◌∷◌, ◌++◌, length, map, slice_get, All, Option, Some, None, nat_le}
use Rattle.std.specs.List.{flat_map}
use Rattle.book_owned.specs.Marks.{durable}
use Rattle.mdf_disk.specs.State.{DiskState}
use Rattle.acq_script.specs.declared.script.Plan.{Plan}
use Rattle.acq_script.specs.declared.script.Script.{Script}
use Rattle.mdf_command.specs.declared.fault.Fault.{Fault}
use Rattle.mdf_command.specs.declared.fault.Fault.TheVariants as fault_
use Rattle.mdf_record.specs.Record.{Outcome}
use Rattle.mdf_record.specs.Recorded.{RecordComes}
use Rattle.mdf_record.specs.Recovers.{AreRecovered}
use Rattle.mdf_record.specs.declared.record.RecordEnd.{RecordEnd}
use Rattle.mdf_record.specs.declared.record.RecordEnd.TheVariants.{Refused, Closed}
use Rattle.mdf_rotate.specs.Rotate.{recorded_in}
use Rattle.mdf_disk.specs.Served.{Served, handed_out, taken_back}
use Rattle.mdf_rotate.specs.Text.{Recording}
use Rattle.mdf_rotate.specs.Words.{part_name}

-- A part: the script that it is the recording of, though nobody wrote that down, with the tasks that each source handed in in it; its disk
-- as that was handed out; what it left; and how it ended.
pub record Part : Type 0 where
  pub script : Script
  pub disk : DiskState
  pub left : Outcome
  pub end : RecordEnd

abbrev pub lefts_of : List Part → List Outcome
lefts_of parts = map (λ part. part.left) parts

-- what was done with the disk of a part, and with those of parts, one behind the other
abbrev pub served_of : Part → List Served
served_of part = handed_out part.disk ∷ taken_back part.left.disk ∷ []

abbrev pub served_by : List Part → List Served
served_by parts = flat_map served_of parts

abbrev pub recordings_of : List Part → List Recording
recordings_of parts = map recorded_in (lefts_of parts)

-- The part of a number was recorded over the plan under its name, as `record` records its script, or refused as that is. Nothing was done
-- to a disk that was not asked for a file, and whatever happened, each crash leaves what a recording does.
pub record IsPart (plan : Plan) (output : List ℕ) (now number : ℕ) (part : Part) : Type 0 where
  pub plan_is : part.script.plan ≡ plan
  pub comes : RecordComes (λ said. said ≡ part.script) (λ problem. ⊥) (part_name output number) now part.disk part.left part.end
  pub untouched : part.left.disk.asked ≡ None → part.left.disk ≡ part.disk
  pub recovered : AreRecovered part.disk.moment part.left

-- so is each, by its number
abbrev pub AreParts : Plan → List ℕ → ℕ → List Part → Type 0
AreParts plan output now parts = (number : ℕ) (part : Part) → slice_get parts number ≡ Some part → IsPart plan output now number part

-- what went wrong in a part, if anything did, and how many samples a reader finds shown of it, where it is looked at live
abbrev pub fault_of : RecordEnd → Option Fault
fault_of (Refused problem) = Some problem
fault_of (Closed accepted samples last live problem seen) = problem

abbrev pub live_of : RecordEnd → Option ℕ
live_of (Refused problem) = None
live_of (Closed accepted samples last live problem seen) = live

-- how many samples of it are durable
abbrev pub durable_of : RecordEnd → ℕ
durable_of (Refused problem) = 0
durable_of (Closed accepted samples last live problem seen) = last

-- a session was full, for a sample that has room in an empty one
abbrev pub fits_anew : Option Fault → Bool
fits_anew (Some (fault_.SessionFull held size limit)) = nat_le size limit
fits_anew _ = false

-- The session of a part was full, there are samples in it, and the one that had no room has it in an empty session: then the next part
-- begins. A sample that costs more than a session has no room in any part.
pub record GoesOn (part : Part) : Type 0 where
  pub full : fits_anew (fault_of part.end) ≡ true
  pub some : 0 < length part.left.history

-- So a part is behind which another one stands: the log goes on behind it, or nothing went wrong in it.
abbrev pub Precedes : Part → Type 0
Precedes part = GoesOn part ⊎ (fault_of part.end ≡ None)

-- behind each part but the last the next begins, and behind the last none does, unless as many as can be numbered have been
pub record Follow (parts : List Part) (last : Part) : Type 0 where
  pub before : List Part
  pub are : parts ≡ before ++ last ∷ []
  pub full : All Precedes before
  pub over : GoesOn last → length parts ≡ 2 ^ 64 - 1

-- how many samples are in all parts, and how many of them are durable
abbrev pub sample_count : List Part → ℕ
sample_count [] = 0
sample_count (part ∷ parts) = length part.left.history + sample_count parts

abbrev pub durable_count : List Part → ℕ
durable_count [] = 0
durable_count (part ∷ parts) = durable part.left.marks + durable_count parts

-- What a part of a log leaves: the recording of a script that nobody wrote down. Its plan is that of the log, and the tasks of each source are what
-- its feed handed in.
use Rattle.std.specs.Prelude.{ℕ, ◌≡◌, ◌⊎◌, List, map}
use Rattle.mdf_disk.specs.State.{DiskState}
use Rattle.acq_run.specs.declared.feed.Fed.{Fed}
use Rattle.acq_run.specs.Ran.{AllHanded}
use Rattle.acq_run.specs.declared.work.Driven.{Driven}
use Rattle.acq_script.specs.declared.script.Plan.{Plan}
use Rattle.acq_script.specs.declared.script.Script.{Script}
use Rattle.mdf_record.specs.Feeds.{AreIdle, HaveTaken}
use Rattle.mdf_record.specs.Record.{Outcome}
use Rattle.mdf_record.specs.Recorded.{RecordComes}
use Rattle.mdf_record.specs.Sources.{feds_of}
use Rattle.mdf_record.specs.declared.record.RecordEnd.{RecordEnd}

-- From where the feeds stood to where they stand now a part was recorded, as a script is, or refused, as that is. Either no source worked, and the
-- feeds are the same; or each has, and all that its feed handed in was done but the last at most.
pub record PartComes {F : Type 0} (hands : F → List Fed → F → Type 0) (waits : F → Fed → Type 0) (ends : F → Type 0) (plan : Plan) (name : List ℕ) (now : ℕ) (disk : DiskState) (left : Outcome)
    (feeds feeds' : List F) (all : List Driven) (end : RecordEnd) : Type 0 where
  pub script : Script
  pub plan_is : script.plan ≡ plan
  pub handed : AllHanded hands feeds (map feds_of script.lists) feeds'
  pub comes : RecordComes (λ said. said ≡ script) (λ fault. ⊥) name now disk left end
  pub did : AreIdle left end feeds feeds' (map feds_of script.lists) all ⊎ HaveTaken waits ends plan disk.faults left end (map feds_of script.lists) all feeds'

-- What the command `record` says of a script that it recorded.
use Rattle.std.proofs.Common.{◌≡◌, ℕ, List, Option, subst}
use Rattle.mdf_disk.specs.State.{DiskState}
use Rattle.mdf_layout.specs.declared.sample.Sample.{Sample}
use Rattle.acq_script.specs.Stage.{IsScript}
use Rattle.acq_script.specs.declared.script.Script.{Script}
use Rattle.mdf_command.specs.declared.fault.Fault.{Fault}
use Rattle.mdf_carried.specs.Recovers.{IsReadHead}
use Rattle.mdf_record.specs.Head.{script_head}
use Rattle.mdf_record.specs.Record.{IsComplete, IsRecorded, Outcome}
use Rattle.mdf_record.specs.Recorded.{IsClosed}
use Rattle.mdf_schedule.specs.Outcomes.{IsRecordedTo, LeavesWhole}

module _ (script : Script) {name : List ℕ} {start : ℕ} {disk : DiskState} {left : Outcome} {accepted : List ℕ} {samples last : ℕ} {live : Option ℕ}
    {fault : Option Fault} {seen : List (List Sample)}
    (closed : IsClosed (λ said. said ≡ script) name start disk left accepted samples last live fault seen) where
  pub is_script : IsScript script
  is_script = subst IsScript closed.says closed.is_script

  pub head_is_read : IsReadHead script.plan.form start script.plan.rows
  head_is_read = subst (λ (s : Script). IsReadHead s.plan.form start s.plan.rows) closed.says closed.readable

  pub recorded : IsRecorded script (script_head start script) disk.moment left
  recorded = subst (λ (s : Script). IsRecorded s (script_head start s) disk.moment left) closed.says closed.recorded

-- where it ended with no fault
module _ (script : Script) (start : ℕ) (left : Outcome) (file : List ℕ) (is : IsRecordedTo script start left file) where
  pub leaves_whole : LeavesWhole script start left file
  leaves_whole = record {
    complete = subst (λ (s : Script). IsComplete s left) is.closed.says is.closed.comes;
    begun = is.disk.moment;
    past = is.past;
    start_holds = (recorded script is.closed).start_holds;
    story = is.story;
    told = is.told;
    now = is.now;
    content = is.content;
    bytes = is.bytes;
  }

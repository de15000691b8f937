-- Recordings of scripts, and what a crash leaves of them.
use Rattle.std.specs.Prelude.{ℕ, ◌≡◌, ◌≤◌, ◌<◌, List, [], length, slice_index, Option, Some, None}
use Rattle.std.specs.List.{slice_index_or}
use Rattle.mdf_disk.specs.Story.{Story, IsNow, LeftSince}
use Rattle.mdf_disk.specs.State.{DiskState}
use Rattle.mdf_layout.specs.History.{group_samples}
use Rattle.mdf_layout.specs.declared.sample.Sample.{Sample}
use Rattle.mdf_command.specs.declared.fault.Fault.{Fault}
use Rattle.mdf_spell.specs.Standing.{AreBytes}
use Rattle.book_owned.specs.Kept.{StartHolds}
use Rattle.acq_script.specs.Tasks.{samples_of}
use Rattle.acq_script.specs.declared.script.Script.{Script}
use Rattle.mdf_record.specs.Head.{script_head}
use Rattle.mdf_record.specs.Record.{IsComplete, Outcome}
use Rattle.mdf_record.specs.Recorded.{IsClosed}

-- the samples of a group that the group's source hands in, in order
abbrev pub script_samples : Script → ℕ → List Sample
script_samples script g = group_samples (samples_of (slice_index_or script.lists (slice_index script.plan.owners g) [])) g

-- the scripts have one plan, and hand in the same samples of each group
pub record AgreeScripts (script other : Script) : Type 0 where
  pub plan : script.plan ≡ other.plan
  pub groups : (g : ℕ) → g < length script.plan.rows → script_samples script g ≡ script_samples other g

-- A recording of the script that started at this time in ns was made whole, and left this file: the disk tells of each moment
-- what a crash would have left, and this file is what it holds now.
pub record LeavesWhole (script : Script) (start : ℕ) (left : Outcome) (file : List ℕ) : Type 0 where
  pub complete : IsComplete script left
  pub begun : ℕ
  pub past : begun ≤ left.disk.moment
  pub start_holds : StartHolds script.plan.shapes (script_head start script) left.disk.story begun left.history
  pub story : Story
  pub told : left.disk.story ≡ Some story
  pub now : IsNow story left.disk.content left.disk.moment
  pub content : left.disk.content ≡ Some file
  pub bytes : AreBytes file

-- The command `record` was given the script at this time in ns, on a disk that was as this one before, ended with no fault, and
-- left this file: the disk tells of each moment what a crash would have left, and this file is what it holds now.
pub record IsRecordedTo (script : Script) (start : ℕ) (left : Outcome) (file : List ℕ) : Type 0 where
  pub name : List ℕ
  pub disk : DiskState
  pub accepted : List ℕ
  pub samples : ℕ
  pub last : ℕ
  pub live : Option ℕ
  pub seen : List (List Sample)
  pub closed : IsClosed (λ said. said ≡ script) name start disk left accepted samples last live None seen
  pub past : disk.moment ≤ left.disk.moment
  pub story : Story
  pub told : left.disk.story ≡ Some story
  pub now : IsNow story left.disk.content left.disk.moment
  pub content : left.disk.content ≡ Some file
  pub bytes : AreBytes file

-- The command `record` was given the script at this time in ns, on a disk that was as this one before, and made a recording of it: a crash at
-- some moment since, while it ran or when it had ended, with a fault or with none, left this file.
pub record IsLeftBy (script : Script) (start : ℕ) (file : List ℕ) : Type 0 where
  pub name : List ℕ
  pub disk : DiskState
  pub left : Outcome
  pub accepted : List ℕ
  pub samples : ℕ
  pub last : ℕ
  pub live : Option ℕ
  pub fault : Option Fault
  pub seen : List (List Sample)
  pub closed : IsClosed (λ said. said ≡ script) name start disk left accepted samples last live fault seen
  pub since : LeftSince left.disk.story disk.moment file

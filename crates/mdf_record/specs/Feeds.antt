-- A recording of feeds, one for each source of a plan: what they handed in, and what was done of it.
use Rattle.std.specs.Prelude.{ℕ, suc, ◌≡◌, ◌≤◌, ◌<◌, ◌⊎◌, ◌^◌, List, [], ◌∷◌, ◌++◌, length, map, replicate, All, Option, None, Some}
use mathlib.Core.List.{IsPrefix}
use Rattle.mdf_format.specs.Cause.{Rose}
use Rattle.mdf_layout.specs.History.{source_samples}
use Rattle.mdf_layout.specs.declared.sample.Sample.{Sample}
use Rattle.mdf_gate.specs.Gated.{Gated}
use Rattle.book_owned.specs.Members.{DiskOf}
use Rattle.acq_run.specs.Feeds.{samples_of}
use Rattle.acq_run.specs.declared.feed.Fed.{Fed}
use Rattle.acq_run.specs.Ran.{AllEnded, AllHanded, WasLast}
use Rattle.acq_run.specs.Workers.{CanHand}
use Rattle.acq_run.specs.Works.{AreMarked, HasRoomNext, IsOver}
use Rattle.acq_run.specs.declared.work.Driven.{Driven}
use Rattle.acq_run.specs.declared.work.Ended.{Ended}
use Rattle.acq_run.specs.declared.work.Ended.TheVariants.{Running, Done, SessionFull, Stopped, DiskFault, Memory}
use Rattle.acq_script.specs.Plan.{IsPlan, IsTaskOf, TaskFits}
use Rattle.acq_script.specs.Stage.{IsScript}
use Rattle.acq_script.specs.declared.script.Plan.{Plan}
use Rattle.acq_script.specs.declared.script.Script.{Script}
use Rattle.acq_script.specs.declared.script.Task.{Task}
use Rattle.mdf_command.specs.declared.fault.Fault.{Fault}
use Rattle.mdf_command.specs.declared.fault.Fault.TheVariants as fault_
use Rattle.mdf_record.specs.Record.{Outcome}
use Rattle.mdf_record.specs.Recorded.{HasRun}
use Rattle.mdf_record.specs.Sources.{fed_of, feds_of}
use Rattle.mdf_record.specs.declared.feeds.Setting.{Setting}
use Rattle.mdf_record.specs.declared.record.RecordEnd.{RecordEnd}
use Rattle.mdf_record.specs.declared.record.RecordEnd.TheVariants.{Refused, Closed}

-- a task that fits the plan, and is this source's
pub record IsFedOf (plan : Plan) (source : ℕ) (one : Fed) : Type 0 where
  pub task : Task
  pub fed_is : one ≡ fed_of task
  pub fits : TaskFits plan task
  pub own : IsTaskOf plan source task

-- Whatever each of these feeds of the sources from this one on can hand in are such tasks of its source, and no more than can be counted.
abbrev pub AllMayRecord : {F : Type 0} → (F → List Fed → F → Type 0) → Plan → ℕ → List F → Type 0
AllMayRecord hands plan source [] = Unit {0}
AllMayRecord hands plan source (feed ∷ feeds) =
    ((feds : List Fed) → CanHand hands feed feds → All (IsFedOf plan source) feds × (length feds < 2 ^ 64)) × AllMayRecord hands plan (suc source) feeds

-- this was taken of the plan, and there is a feed for each of its sources
pub record IsReadyFor {F : Type 0} (hands : F → List Fed → F → Type 0) (plan : Plan) (setting : Setting) (feeds : List F) : Type 0 where
  pub is_plan : IsPlan plan
  pub shapes : setting.shapes ≡ plan.shapes
  pub owners : setting.owners.now ≡ plan.owners
  pub block : setting.block ≡ plan.block
  pub session : setting.session ≡ plan.session
  pub live : setting.live ≡ plan.live
  pub count : length feeds ≡ plan.sources
  pub may : AllMayRecord hands plan 0 feeds

-- Why the work of a source ended that had seen this of the history, by what it handed in and was not done: nothing, a sample that would
-- pass the session limit, or one for which there was room but no memory; or the disk failed, whose count of faults was `faults` before.
abbrev pub EndsAt : Plan → ℕ → Outcome → List Sample → List Fed → Ended → Type 0
EndsAt plan faults left seen rest Running = ⊥
EndsAt plan faults left seen rest Done = rest ≡ []
EndsAt plan faults left seen rest (SessionFull held size limit) = IsOver plan.shapes plan.session seen rest held size limit
EndsAt plan faults left seen rest (Stopped mark) = Rose faults left.disk.faults × WasLast left.marks mark
EndsAt plan faults left seen rest (DiskFault before after) = Rose faults left.disk.faults × Rose before after
EndsAt plan faults left seen rest Memory = HasRoomNext plan.shapes plan.session seen rest

-- A source has worked over what its feed handed in: all of it was done but the last at most, for which the feed waits that is left; where all was, it
-- has done all that there is. Just the samples of what was done are its own in the history that is left, and each flush that was done has a mark
-- with just the source's samples before it.
pub record HasTaken {F : Type 0} (waits : F → Fed → Type 0) (plan : Plan) (faults : ℕ) (left : Outcome) (source : ℕ) (handed : List Fed) (driven : Driven) (feed' : F) : Type 0 where
  pub done : List Fed
  pub rest : List Fed
  pub parts : done ++ rest ≡ handed
  pub one : length rest ≤ 1
  pub waiting : (task : Fed) → rest ≡ task ∷ [] → waits feed' task
  pub finished : rest ≡ [] → driven.ended ≡ Done
  pub own : source_samples plan.owners left.history source ≡ samples_of done
  pub counted : driven.accepted ≡ length (samples_of done)
  pub marked : AreMarked plan.owners source left.history left.marks [] done
  pub seen : List Sample
  pub begins : IsPrefix seen left.history
  pub ends : EndsAt plan faults left seen rest driven.ended

-- so has each from this source on
abbrev pub AllTaken : {F : Type 0} → (F → Fed → Type 0) → Plan → ℕ → Outcome → ℕ → List (List Fed) → List Driven → List F → Type 0
AllTaken waits plan faults left source [] [] [] = Unit {0}
AllTaken waits plan faults left source (feds ∷ handed) (driven ∷ all) (feed ∷ feeds) =
    HasTaken waits plan faults left source feds driven feed × AllTaken waits plan faults left (suc source) handed all feeds
AllTaken waits plan faults left source _ _ _ = ⊥

-- a book was begun and closed, and this is so of what went wrong, if anything did
abbrev pub IsClosedWith : (Option Fault → Type 0) → RecordEnd → Type 0
IsClosedWith holds (Refused fault) = ⊥
IsClosedWith holds (Closed accepted samples durable live fault seen) = holds fault

-- the work of a source did not end by a fault of the disk, its own or another's
abbrev pub HadDisk : Ended → Type 0
HadDisk Running = Unit {0}
HadDisk Done = Unit {0}
HadDisk (SessionFull held size limit) = Unit {0}
HadDisk (Stopped mark) = ⊥
HadDisk (DiskFault before after) = ⊥
HadDisk Memory = Unit {0}

-- All sources have worked over a book, and nothing more comes of the feed of one that has done all. Where nothing went wrong each has, and
-- where the disk did not fail no work ended by that.
pub record HaveTaken {F : Type 0} (waits : F → Fed → Type 0) (ends : F → Type 0) (plan : Plan) (faults : ℕ) (left : Outcome) (end : RecordEnd) (lists : List (List Fed)) (all : List Driven)
    (feeds' : List F) : Type 0 where
  pub begun : IsClosedWith (λ fault. Unit {0}) end
  pub ended : AllEnded ends all feeds'
  pub each : AllTaken waits plan faults left 0 lists all feeds'
  pub well : IsClosedWith (λ fault. fault ≡ None) end → All (λ driven. driven.ended ≡ Done) all
  pub calm : IsClosedWith (λ fault. fault ≡ Some fault_.Device → ⊥) end → All (λ driven. HadDisk driven.ended) all

-- or none has, for want of memory: of no feed anything was taken
pub record AreIdle {F : Type 0} (left : Outcome) (end : RecordEnd) (feeds feeds' : List F) (lists : List (List Fed)) (all : List Driven) : Type 0 where
  pub same : feeds' ≡ feeds
  pub nothing : lists ≡ replicate (length feeds) []
  pub none : all ≡ []
  pub empty : left.history ≡ []
  pub short : IsClosedWith (λ fault. fault ≡ Some fault_.Memory → ⊥) end → ⊥

-- Each of these lists goes on from what a source handed in; where it has done all nothing more stands behind.
abbrev pub GoOn : List (List Fed) → List Driven → List (List Fed) → Type 0
GoOn [] all [] = Unit {0}
GoOn (feds ∷ handed) [] (whole ∷ wholes) = IsPrefix feds whole × GoOn handed [] wholes
GoOn (feds ∷ handed) (driven ∷ all) (whole ∷ wholes) = ((more : List Fed) × (feds ++ more ≡ whole) × (driven.ended ≡ Done → more ≡ [])) × GoOn handed all wholes
GoOn _ _ _ = ⊥

-- What a recording of feeds leaves: that of a script whose tasks are what they handed in, though nobody wrote it down. It is that of each
-- script, too, whose tasks go on from there.
pub record HaveFed {C F : Type 0} (tells : DiskOf C) (hands : F → List Fed → F → Type 0) (waits : F → Fed → Type 0) (ends : F → Type 0) (plan : Plan) (file : Gated C) (left : Outcome) (end : RecordEnd)
    (feeds feeds' : List F) (all : List Driven) : Type 0 where
  pub script : Script
  pub plan_is : script.plan ≡ plan
  pub is_script : IsScript script
  pub handed : AllHanded hands feeds (map feds_of script.lists) feeds'
  pub run : HasRun tells script file left end
  pub whole : (longer : Script) → IsScript longer → longer.plan ≡ plan → GoOn (map feds_of script.lists) all (map feds_of longer.lists) → HasRun tells longer file left end
  pub did : AreIdle left end feeds feeds' (map feds_of script.lists) all ⊎ HaveTaken waits ends plan file.faults left end (map feds_of script.lists) all feeds'

-- What the sources of a recording did, each in a thread of its own.
use Rattle.std.specs.Prelude.{ℕ, ◌≡◌, List, [], ◌∷◌, ◌++◌, length, fold, map, Result, Ok, Err}
use Rattle.mdf_layout.specs.declared.sample.Sample.{Sample}
use Rattle.book_owned.specs.Account.{Account}
use Rattle.book_owned.specs.declared.mark.Mark.{Mark}
use Rattle.acq_run.specs.Works.{IsMarkedAt}
use Rattle.acq_run.specs.Ran.{AllRan}
use Rattle.acq_run.specs.declared.feed.Fed.{Fed}
use Rattle.acq_run.specs.declared.feed.Fed.TheVariants as fed
use Rattle.acq_run.specs.declared.work.Driven.{Driven}
use Rattle.acq_run.specs.declared.work.Ended.{Ended}
use Rattle.acq_run.specs.declared.work.Ended.TheVariants as ended
use Rattle.acq_script.specs.declared.script.Task.{Task}
use Rattle.acq_script.specs.declared.script.Task.TheVariants as task
use Rattle.mdf_record.specs.declared.sources.End.{End}
use Rattle.mdf_record.specs.declared.sources.End.TheVariants.{SessionFull, Stopped, Memory}

-- what a source hands in for a task, and for its tasks
abbrev pub fed_of : Task → Fed
fed_of (task.Sample sample) = fed.Sample sample
fed_of task.Flush = fed.Flush

abbrev pub feds_of : List Task → List Fed
feds_of tasks = map fed_of tasks

-- Each flush among the tasks of a source that counts has a mark with just the source's samples before it, where these stand
-- before the first task. Which flushes count is a fact on how many these are.
abbrev pub AreOwnMarked : List ℕ → ℕ → List Sample → List Mark → (ℕ → Type 0) → List Sample → List Task → Type 0
AreOwnMarked owners source history marks counts before [] = Unit {0}
AreOwnMarked owners source history marks counts before (task.Sample sample ∷ tasks) =
    AreOwnMarked owners source history marks counts (before ++ sample ∷ []) tasks
AreOwnMarked owners source history marks counts before (task.Flush ∷ tasks) =
    (counts (length before) → IsMarkedAt owners source history marks before) × AreOwnMarked owners source history marks counts before tasks

-- what is told of how a source's work ended: of a stopped book not which source met the fault of the disk
abbrev pub told_of : Ended → Result Unit End
told_of ended.Running = Ok tt
told_of ended.Done = Ok tt
told_of (ended.SessionFull held size limit) = Err (SessionFull held size limit)
told_of (ended.Stopped mark) = Err Stopped
told_of (ended.DiskFault before after) = Err Stopped
told_of ended.Memory = Err Memory

-- the end that is told of two: a full session before want of memory, and else the first
abbrev pub worse : Result Unit End → Result Unit End → Result Unit End
worse (Ok done) next = next
worse (Err (SessionFull held size limit)) next = Err (SessionFull held size limit)
worse (Err Stopped) next = Err Stopped
worse (Err Memory) (Ok done) = Err Memory
worse (Err Memory) (Err end) = Err end

abbrev pub worst : List (Result Unit End) → Result Unit End
worst ends = fold worse (Ok tt) ends

-- a source did not end for want of room
abbrev pub HadRoom : Result Unit End → Type 0
HadRoom (Ok done) = Unit {0}
HadRoom (Err (SessionFull held size limit)) = ⊥
HadRoom (Err Stopped) = Unit {0}
HadRoom (Err Memory) = Unit {0}

-- how many samples each source accepted, and how it ended
abbrev pub counts_of : List Driven → List ℕ
counts_of all = map (λ driven. driven.accepted) all

abbrev pub ends_of : List Driven → List (Result Unit End)
ends_of all = map (λ driven. told_of driven.ended) all

-- all sources have worked, and each has seen this of the history: so many samples of each were accepted, and this is the end
-- that is told
pub record RanAll {D V : Type 0} (owners : List ℕ) (book : Account D V) (seen : List (List Sample)) (lists : List (List Task)) (accepted : List ℕ) (result : Result Unit End) : Type 0 where
  pub all : List Driven
  pub each : AllRan owners book seen 0 (map feds_of lists) all
  pub accepted_is : accepted ≡ counts_of all
  pub told : result ≡ worst (ends_of all)

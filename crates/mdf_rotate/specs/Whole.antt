-- The whole history of a rotation: the histories of its parts, one behind the other.
use Rattle.std.specs.Prelude.{ℕ, ◌≡◌, ◌≢◌, ◌⊎◌, ◌<◌, ◌+◌, List, [], ◌∷◌, ◌++◌, length, flat_map, slice_get, All, Some, is_some}
use Rattle.std.specs.List.{AllZip, Contains}
use mathlib.Core.List.{IsPrefix}
use Rattle.mdf_disk.specs.State.{DiskState}
use Rattle.mdf_disk.specs.Crash.{HoldsSince}
use Rattle.mdf_layout.specs.History.{source_samples}
use Rattle.mdf_layout.specs.Record.{cost_of, history_cost}
use Rattle.mdf_layout.specs.declared.sample.Sample.{Sample}
use Rattle.book_owned.specs.Kept.{MarksHold, StartHolds}
use Rattle.book_owned.specs.Marks.{AreRising, durable, last_mark}
use Rattle.acq_script.specs.Tasks.{samples_of}
use Rattle.acq_script.specs.declared.script.Script.{Script}
use Rattle.acq_script.specs.declared.script.Task.{Task}
use Rattle.mdf_carried.specs.Samples.{IsRecovered}
use Rattle.mdf_record.specs.Head.{script_head}
use Rattle.mdf_record.specs.Record.{IsSaved, OfSources, Outcome}
use Rattle.mdf_record.specs.Recovers.{AreRecovered}
use Rattle.mdf_rotate.specs.declared.course.RotateEnd.{RotateEnd}
use Rattle.mdf_rotate.specs.declared.course.RotateEnd.TheVariants.{Whole, Over}

abbrev pub whole_history : List Outcome → List Sample
whole_history lefts = flat_map (λ left. left.history) lefts

-- of each source it has a beginning of the script's samples
abbrev pub IsBeginning : Script → List Outcome → Type 0
IsBeginning script lefts = OfSources script (λ source tasks.
    IsPrefix (source_samples script.plan.owners (whole_history lefts) source) (samples_of tasks))

-- and all of them
abbrev pub IsAll : Script → List Outcome → Type 0
IsAll script lefts = OfSources script (λ source tasks.
    source_samples script.plan.owners (whole_history lefts) source ≡ samples_of tasks)

-- What each part keeps of its own disk, be it begun or not: of its marks, and of what a crash since its start may leave.
pub record KeepsPart (script : Script) (now : ℕ) (disk : DiskState) (left : Outcome) : Type 0 where
  pub marks_hold : MarksHold script.plan.shapes (script_head now script) left.disk.story left.disk.moment left.history left.marks
  pub start_holds : StartHolds script.plan.shapes (script_head now script) left.disk.story disk.moment left.history
  pub marks_rise : (left.marks ≡ []) ⊎ AreRising (is_some left.disk.story) left.marks
  pub recovered : AreRecovered disk.moment left

abbrev pub KeepEach : Script → ℕ → List DiskState → List Outcome → Type 0
KeepEach script now disks lefts = AllZip (KeepsPart script now) disks lefts

-- A part behind which something is left is saved whole, and there is a sample of the script for which its session has no room.
pub record IsFullPart (script : Script) (left : Outcome) : Type 0 where
  pub saved : IsSaved script.plan left
  pub source : ℕ
  pub tasks : List Task
  pub there : slice_get script.lists source ≡ Some tasks
  pub large : Sample
  pub among : Contains (samples_of tasks) large
  pub full : script.plan.session < history_cost script.plan.shapes left.history + cost_of script.plan.shapes large

-- so is each part but the last that was begun
abbrev pub AreFull : Script → List Outcome → Type 0
AreFull script lefts = (before : List Outcome) (left next : Outcome) (later : List Outcome)
    → lefts ≡ before ++ left ∷ next ∷ later → next.marks ≢ [] → IsFullPart script left

-- Of a part that was begun and is all durable each crash since its last mark leaves a file of which just its history is recovered, by
-- the tree of the file itself.
abbrev pub IsRecoveredWhole : Outcome → Type 0
IsRecoveredWhole left = left.marks ≢ [] → durable left.marks ≡ length left.history
    → HoldsSince left.disk.story (last_mark left.marks).moment (λ file. IsRecovered file left.history)

-- What a rotation of this script keeps, whatever happens, and what it has done where all was recorded.
pub record KeepsWhole (script : Script) (now : ℕ) (disks : List DiskState) (lefts : List Outcome) (end : RotateEnd) : Type 0 where
  pub beginning : IsBeginning script lefts
  pub all : end ≡ Whole → IsAll script lefts
  pub each : KeepEach script now disks lefts
  pub full : AreFull script lefts
  pub over : end ≡ Over → All (IsFullPart script) lefts
  pub recovered : All IsRecoveredWhole lefts

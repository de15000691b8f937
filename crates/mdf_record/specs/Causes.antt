-- Why each mark of a recording was made.
use Rattle.std.specs.Prelude.{ℕ, ◌≡◌, ◌⊎◌, List, [], ◌∷◌, ◌++◌, length, slice_get, take, Some}
use Rattle.mdf_layout.specs.History.{source_samples}
use Rattle.mdf_layout.specs.declared.sample.Sample.{Sample}
use Rattle.book_owned.specs.declared.mark.Mark.{Mark}
use Rattle.book_shared.specs.Causes.{AnyOf, IsAmong, MarksCaused}
use Rattle.acq_script.specs.Tasks.{samples_of}
use Rattle.acq_script.specs.declared.script.Script.{Script}
use Rattle.acq_script.specs.declared.script.Task.{Task}
use Rattle.acq_script.specs.declared.script.Task.TheVariants as task

-- A flush line of the script goes through so many samples of a history: of these its source has just those before the line.
pub record IsFlushLine (script : Script) (history : List Sample) (through : ℕ) : Type 0 where
  pub source : ℕ
  pub tasks : List Task
  pub there : slice_get script.lists source ≡ Some tasks
  pub first : List Task
  pub later : List Task
  pub tasks_are : tasks ≡ first ++ task.Flush ∷ later
  pub own_is : source_samples script.plan.owners (take through history) source ≡ samples_of first

-- a source of the script has this sample
abbrev pub IsLineSample : Script → Sample → Type 0
IsLineSample script sample = AnyOf (λ tasks. IsAmong (samples_of tasks) sample) script.lists

-- The first mark goes through no sample. Each later one goes through the samples of a flush line, or through all; or the
-- records behind the mark before it and that of a sample of the script, which its source had to append, pass the block limit.
pub record HaveCauses (script : Script) (history : List Sample) (marks : List Mark) : Type 0 where
  pub first : Mark
  pub none : first.through ≡ 0
  pub caused : MarksCaused (λ n. IsFlushLine script history n ⊎ (n ≡ length history)) (IsLineSample script) script.plan.shapes script.plan.block history (first ∷ []) marks

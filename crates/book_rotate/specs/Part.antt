-- A part of a script: of each source's tasks a beginning, together as much as a session has room for.
use Rattle.std.specs.Prelude.{ℕ, ◌≡◌, ◌+◌, ◌/◌, ◌≤◌, ◌<◌, Bool, true, false, List, [], ◌∷◌, ◌++◌, length, sum_by, All}
use Rattle.std.specs.List.{zip}
use Rattle.mdf_layout.specs.Layout.{Layout}
use Rattle.mdf_layout.specs.Record.{cost_of, history_cost}
use Rattle.mdf_layout.specs.declared.sample.Sample.{Sample}
use Rattle.acq_script.specs.Tasks.{samples_of}
use Rattle.acq_script.specs.declared.script.Plan.{Plan}
use Rattle.acq_script.specs.declared.script.Script.{Script}
use Rattle.acq_script.specs.declared.script.Task.{Task}
use Rattle.acq_script.specs.declared.script.Task.TheVariants as task

-- what a task costs
abbrev pub task_cost : List Layout → Task → ℕ
task_cost layouts (task.Sample sample) = cost_of layouts sample
task_cost layouts task.Flush = 0

-- what the samples among a source's tasks cost, and those of all sources
abbrev pub tasks_cost : List Layout → List Task → ℕ
tasks_cost layouts tasks = history_cost layouts (samples_of tasks)

abbrev pub lists_cost : List Layout → List (List Task) → ℕ
lists_cost layouts lists = sum_by (tasks_cost layouts) lists

-- the tasks of each source, with more behind them
abbrev pub behind : List (List Task) → List (List Task) → List (List Task)
behind [] later = []
behind (tasks ∷ lists) [] = []
behind (tasks ∷ lists) (more ∷ later) = (tasks ++ more) ∷ behind lists later

-- nothing is left of a source's tasks, or a sample is next of which this holds
abbrev pub IsNextOrNone : (Sample → Type 0) → List Task → Type 0
IsNextOrNone P [] = Unit {0}
IsNextOrNone P (task.Sample sample ∷ tasks) = P sample
IsNextOrNone P (task.Flush ∷ tasks) = ⊥

-- the plan of a part: that of the script, but nobody looks while it is recorded
abbrev pub part_plan : Plan → Plan
part_plan plan = record plan { live = false }

-- the sample has no room behind a part of this cost
abbrev pub HasNoRoom : Plan → ℕ → Sample → Type 0
HasNoRoom plan cost sample = plan.session < cost + cost_of plan.shapes sample

-- The part is cut off the front of a script, and the rest is left. Its samples have room in a session, and no source's next
-- sample has room behind them. With that the source has its share: that of one source of a session.
pub record IsPart (script part rest : Script) : Type 0 where
  pub plan_is : part.plan ≡ part_plan script.plan
  pub same_plan : rest.plan ≡ script.plan
  pub count : length part.lists ≡ length script.lists
  pub same_count : length rest.lists ≡ length script.lists
  pub cut : behind part.lists rest.lists ≡ script.lists
  pub within : lists_cost script.plan.shapes part.lists ≤ script.plan.session
  pub full : All (IsNextOrNone (HasNoRoom script.plan (lists_cost script.plan.shapes part.lists))) rest.lists
  pub fair : All (λ source. IsNextOrNone (λ sample.
      script.plan.session / script.plan.sources ≤ tasks_cost script.plan.shapes source.0 + cost_of script.plan.shapes sample) source.1) (zip part.lists rest.lists)

-- no task is left
abbrev pub is_done : List (List Task) → Bool
is_done [] = true
is_done ([] ∷ lists) = is_done lists
is_done ((next ∷ tasks) ∷ lists) = false

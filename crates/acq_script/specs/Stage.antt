-- The rules of a script: which line may stand behind which.
use Rattle.std.specs.Prelude.{ℕ, ◌≡◌, ◌≤◌, ◌<◌, not, true, false, ◌&&◌, nat_le, nat_lt, if◌then◌else◌, List, [], ◌∷◌, ◌++◌, length, All, slice_get, slice_index, slice_set, Option, Some, None, is_none, IsSome}
use Rattle.std.specs.List.{slice_index_or}
use Rattle.std.specs.Option.{option_map, option_and_then}
use Rattle.mdf_layout.specs.Layout.{Layout}
use Rattle.mdf_layout.specs.Record.{encoded_size}
use Rattle.mdf_layout.specs.declared.sample.Sample.{Sample}
use Rattle.mdf_format.specs.Form.{form_numbered}
use Rattle.script_line.specs.Line as said
use Rattle.script_line.specs.Value.{entries_of}
use Rattle.script_line.specs.declared.float.Width.{Width}
use Rattle.acq_script.specs.Plan.{IsPlan, TaskFits, IsTaskOf}
use Rattle.acq_script.specs.Sketch.{IsSketch, preamble_of, opening_of, first_sketch, with_group, channel_in, unit_in, begun}
use Rattle.acq_script.specs.declared.script.Script.{Script}
use Rattle.acq_script.specs.declared.script.Task.{Task}
use Rattle.acq_script.specs.declared.script.Task.TheVariants as task
use Rattle.acq_script.specs.declared.sketch.Preamble.{Preamble}
use Rattle.acq_script.specs.declared.sketch.Sketch.{Sketch}
use Rattle.acq_script.specs.declared.stage.Stage.{Stage}
use Rattle.acq_script.specs.declared.stage.Stage.TheVariants.{Empty, Planned, Running, Ended}

-- what there is before the first line
abbrev pub first_stage : Stage
first_stage = Empty (preamble_of None None None false)

-- the limits, each at most once: 1 to 16,777,216 data bytes of a block, and 1 to 268,435,456 for what the samples cost
abbrev pub with_block : Preamble → ℕ → Option Stage
with_block preamble limit =
    if is_none preamble.block && nat_le 1 limit && nat_le limit 16777216 then Some (Empty (record preamble { block = Some limit })) else None

abbrev pub with_session : Preamble → ℕ → Option Stage
with_session preamble limit =
    if is_none preamble.session && nat_le 1 limit && nat_le limit 268435456 then Some (Empty (record preamble { session = Some limit })) else None

-- the form, at most once: 1 or 2
abbrev pub with_form : Preamble → ℕ → Option Stage
with_form preamble number =
    if is_none preamble.form then option_map (λ form. Empty (record preamble { form = Some form })) (form_numbered number) else None

-- `live`, at most once
abbrev pub with_live : Preamble → Option Stage
with_live preamble = if not preamble.live then Some (Empty (record preamble { live = true })) else None

-- the sample of a group whose entries words are; its first channels take floats of these widths
abbrev pub sample_of : List Layout → List (Option Width) → ℕ → List (List ℕ) → Option Sample
sample_of layouts widths group words = option_and_then
    (λ layout. option_map (λ entries. record { group = group; values = entries }) (entries_of widths layout.rows words)) (slice_get layouts group)

-- the script with one task more of a source
abbrev pub list_with : List (List Task) → ℕ → Task → List (List Task)
list_with lists source does = slice_set lists source (slice_index_or lists source [] ++ does ∷ [])

abbrev pub with_task : Script → ℕ → Task → Script
with_task script source does = record { plan = script.plan; lists = list_with script.lists source does }

-- a sample is its group's source's, and its records are no longer than a block; a flush is of one of the sources
abbrev pub admitted : Script → Sample → Option Script
admitted script sample =
    if nat_le (encoded_size script.plan.shapes sample) script.plan.block
    then Some (with_task script (slice_index script.plan.owners sample.group) (task.Sample sample)) else None

abbrev pub with_sample : Script → ℕ → List (List ℕ) → Option Script
with_sample script group words = option_and_then (admitted script) (sample_of script.plan.shapes [] group words)

abbrev pub with_flush : Script → ℕ → Option Script
with_flush script source = if nat_lt source script.plan.sources then Some (with_task script source task.Flush) else None

-- what a line makes of what stands before the first group, of a plan, and of a script
abbrev pub empty : Preamble → said.Line → Option Stage
empty preamble said.Passed = Some (Empty preamble)
empty preamble (said.Block limit) = with_block preamble limit
empty preamble (said.Session limit) = with_session preamble limit
empty preamble (said.Form number) = with_form preamble number
empty preamble said.Live = with_live preamble
empty preamble (said.Group source name) = option_map Planned (first_sketch (opening_of preamble) source name)
empty preamble _ = None

abbrev pub planned : Sketch → said.Line → Option Stage
planned sketch said.Passed = Some (Planned sketch)
planned sketch (said.Group source name) = option_map Planned (with_group sketch source name)
planned sketch (said.Channel name form) = option_map Planned (channel_in sketch name form)
planned sketch (said.Measured unit) = option_map Planned (unit_in sketch unit)
planned sketch said.Begin = option_map Running (begun sketch)
planned sketch _ = None

abbrev pub running : Script → said.Line → Option Stage
running script said.Passed = Some (Running script)
running script (said.Sample group words) = option_map Running (with_sample script group words)
running script (said.Flush source) = option_map Running (with_flush script source)
running script said.End = Some (Ended script)
running script _ = None

-- what a line makes of the lines before it; None where no rule admits it there
abbrev pub step : Stage → said.Line → Option Stage
step (Empty preamble) line = empty preamble line
step (Planned sketch) line = planned sketch line
step (Running script) line = running script line
step (Ended script) _ = None

-- the group of this number is one of a script that has begun
abbrev pub HasGroup : Stage → ℕ → Type 0
HasGroup (Running script) group = group < length script.plan.shapes
HasGroup _ group = ⊥

-- Memory may be wanted for a line behind the lines before it: it is one that is admitted there and says a group, a channel, a
-- unit, the end of the plan or a flush; or it is a sample of a group that there is, whatever its values are.
abbrev pub MayWant : Stage → said.Line → Type 0
MayWant stage (said.Group source name) = IsSome (step stage (said.Group source name))
MayWant stage (said.Channel name form) = IsSome (step stage (said.Channel name form))
MayWant stage (said.Measured unit) = IsSome (step stage (said.Measured unit))
MayWant stage said.Begin = IsSome (step stage said.Begin)
MayWant stage (said.Sample group words) = HasGroup stage group
MayWant stage (said.Flush source) = IsSome (step stage (said.Flush source))
MayWant stage _ = ⊥

-- what holds of a script: a list for each source, of tasks that fit the plan and are the source's
pub record IsScript (script : Script) : Type 0 where
  pub plan : IsPlan script.plan
  pub lists : length script.lists ≡ script.plan.sources
  pub fit : (s : ℕ) (d : List Task) → s < length script.lists → All (TaskFits script.plan) (slice_index_or script.lists s d)
  pub own : (s : ℕ) (d : List Task) → s < length script.lists → All (IsTaskOf script.plan s) (slice_index_or script.lists s d)

-- a limit that was said is 1 to so much
abbrev pub IsLimit : ℕ → Option ℕ → Type 0
IsLimit most None = Unit {0}
IsLimit most (Some limit) = (1 ≤ limit) × (limit ≤ most)

-- what holds of every stage
abbrev pub Sound : Stage → Type 0
Sound (Empty preamble) = IsLimit 16777216 preamble.block × IsLimit 268435456 preamble.session
Sound (Planned sketch) = IsSketch sketch
Sound (Running script) = IsScript script
Sound (Ended script) = IsScript script

-- The scripts that can be recorded in parts.
use Rattle.std.specs.Prelude.{ℕ, ◌≡◌, ◌≤◌, ◌<◌, List, ◌∷◌, ◌++◌, All, flat_map}
use Rattle.mdf_layout.specs.Record.{cost_of}
use Rattle.mdf_layout.specs.declared.sample.Sample.{Sample}
use Rattle.acq_script.specs.Stage.{IsScript}
use Rattle.acq_script.specs.Tasks.{samples_of}
use Rattle.acq_script.specs.declared.script.Plan.{Plan}
use Rattle.acq_script.specs.declared.script.Script.{Script}
use Rattle.acq_script.specs.declared.script.Task.{Task}
use Rattle.book_rotate.specs.declared.fault.RotateFault.{RotateFault}
use Rattle.book_rotate.specs.declared.fault.RotateFault.TheVariants.{Large, Memory}

-- all samples of a script, by their sources and then by their places
abbrev pub all_samples : List (List Task) → List Sample
all_samples lists = flat_map samples_of lists

-- a session has room for the sample
abbrev pub HasRoom : Plan → Sample → Type 0
HasRoom plan sample = cost_of plan.shapes sample ≤ plan.session

-- it has for each
abbrev pub AllHaveRoom : Script → Type 0
AllHaveRoom script = All (HasRoom script.plan) (all_samples script.lists)

-- among these samples it has not for one of this cost, but for each before it
pub record IsFirstLargeIn (plan : Plan) (samples : List Sample) (size : ℕ) : Type 0 where
  pub before : List Sample
  pub sample : Sample
  pub later : List Sample
  pub samples_are : samples ≡ before ++ sample ∷ later
  pub room : All (HasRoom plan) before
  pub size_is : size ≡ cost_of plan.shapes sample
  pub over : plan.session < size

-- so among those of a script, whose session has this limit
abbrev pub IsFirstLarge : Script → ℕ → ℕ → Type 0
IsFirstLarge script size limit = IsFirstLargeIn script.plan (all_samples script.lists) size × (limit ≡ script.plan.session)

-- why a script is recorded in no parts; memory is wanted only where each sample has room
abbrev pub RotateFaultComes : Script → RotateFault → Type 0
RotateFaultComes script (Large size limit) = IsFirstLarge script size limit
RotateFaultComes script Memory = AllHaveRoom script

-- what holds of a script that is recorded in parts
pub record IsRotatable (script : Script) : Type 0 where
  pub script_is : IsScript script
  pub room : AllHaveRoom script

-- What a script says, or its first line that no rule admits.
use Rattle.std.specs.Prelude.{ℕ, ◌≡◌, ◌+◌, ◌⊎◌, List, [], ◌∷◌, Result, Ok, Err, IsSomeAnd}
use Rattle.std.specs.Option.{option_and_then, ok_or}
use Rattle.script_line.specs.Text.{lines_of}
use Rattle.script_line.specs.Line.{line_of}
use Rattle.acq_script.specs.Stage.{MayWant, first_stage, step}
use Rattle.acq_script.specs.declared.fault.ScriptFault.{ScriptFault}
use Rattle.acq_script.specs.declared.fault.ScriptFault.TheVariants as faults
use Rattle.acq_script.specs.declared.script.Script.{Script}
use Rattle.acq_script.specs.declared.stage.Stage.{Stage}
use Rattle.acq_script.specs.declared.stage.Stage.TheVariants.{Ended}

-- where nothing stands behind the last LF and the script has ended, the script; otherwise the number of the line that is
-- missing there, or that is not ended by LF
abbrev pub ended : Stage → ℕ → List ℕ → Result Script ℕ
ended (Ended script) line [] = Ok script
ended _ line _ = Err line

infixl 10 ◌>>=◌
abbrev pub ◌>>=◌ : {A B : Type 0} → Result A ℕ → (A → Result B ℕ) → Result B ℕ
(Ok x) >>= next = next x
(Err line) >>= next = Err line

-- what a line makes of the lines before it, or its number
abbrev pub after : Stage → ℕ → List ℕ → Result Stage ℕ
after stage line text = ok_or (option_and_then (step stage) (line_of text)) line

-- the lines from one on, where those before it make a stage; the last of them stands behind the last LF
unfoldable pub read_from : Stage → ℕ → List (List ℕ) → Result Script ℕ
read_from stage line [] = Err line
read_from stage line (rest ∷ []) = ended stage line rest
read_from stage line (text ∷ next ∷ more) = do
  changed ← after stage line text
  read_from changed (line + 1) (next ∷ more)

-- the script that bytes are, or the number of their first line that no rule admits after the lines before it, counted
-- from 1
abbrev pub script_of : List ℕ → Result Script ℕ
script_of bytes = read_from first_stage 1 (lines_of bytes)

-- memory may be wanted for a line that is spelled so
abbrev pub MayWantFor : Stage → List ℕ → Type 0
MayWantFor stage text = IsSomeAnd (line_of text) (MayWant stage)

-- Memory may be wanted for one of these lines, where those before them make a stage: for the first, or, if that is admitted,
-- for one behind it. What stands behind the last LF is none of them.
unfoldable pub WantsFrom : Stage → List (List ℕ) → Type 0
WantsFrom stage [] = ⊥
WantsFrom stage (rest ∷ []) = ⊥
WantsFrom stage (text ∷ next ∷ more) =
    MayWantFor stage text ⊎ IsSomeAnd (option_and_then (step stage) (line_of text)) (λ changed. WantsFrom changed (next ∷ more))

-- Memory may be wanted for a line of these bytes before which each line is admitted.
abbrev pub WantsIn : List ℕ → Type 0
WantsIn bytes = WantsFrom first_stage (lines_of bytes)

-- where the fault is want of memory, this holds
abbrev pub WantComes : Type 0 → ScriptFault → Type 0
WantComes wants (faults.Line line) = Unit {0}
WantComes wants faults.Memory = wants

-- an answer is what is found, or the first line that is not admitted; when memory is wanted stands in a clause of its own
abbrev pub FaultIs : {A : Type 0} → ScriptFault → Result A ℕ → Type 0
FaultIs (faults.Line line) found = found ≡ Err line
FaultIs faults.Memory found = Unit {0}

abbrev pub GivesScript : {A : Type 0} → Result A ScriptFault → Result A ℕ → Type 0
GivesScript (Ok x) found = found ≡ Ok x
GivesScript (Err fault) found = FaultIs fault found

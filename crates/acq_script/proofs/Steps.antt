-- One line more of a script.
use Rattle.std.proofs.Common.{◌≡◌, sym, ap, subst, inl, inr, ℕ, ◌+◌, false, Option, Some, None, List, [], ◌∷◌, refl}
use Rattle.std.specs.Prelude.{IsSomeAnd, Ok}
use Rattle.std.specs.Option.{ok_or, option_and_then}
use Rattle.std.proofs.lemmas.Bool.{false≢true}
use Rattle.script_line.specs.Text.{is_end}
use Rattle.script_line.specs.Line.{line_of}
use Rattle.acq_script.specs.Stage.{step}
use Rattle.acq_script.specs.Script.{after, read_from, ended, FaultIs, MayWantFor, WantComes, WantsFrom, ◌>>=◌}
use Rattle.acq_script.specs.declared.fault.ScriptFault.{ScriptFault}
use Rattle.acq_script.specs.declared.fault.ScriptFault.TheVariants as faults
use Rattle.acq_script.specs.declared.stage.Stage.{Stage}

-- where a line is refused, so is the script
pub refused : (fault : ScriptFault) (stage : Stage) (line : ℕ) (text : List ℕ) (parts : List (List ℕ)) → is_end parts ≡ false → FaultIs fault (after stage line text) → FaultIs fault (read_from stage line (text ∷ parts))
unfolding read_from
refused (faults.Line n) stage line text [] some is = absurd (false≢true (sym some))
refused (faults.Line n) stage line text (next ∷ more) some is =
    ap (λ r. r >>= (λ changed. read_from changed (line + 1) (next ∷ more))) is
refused faults.Memory stage line text parts some is = tt

-- where it is admitted, the lines behind it are read after it
pub taken : (stage : Stage) (line : ℕ) (text : List ℕ) (parts : List (List ℕ)) (changed : Stage) → is_end parts ≡ false → after stage line text ≡ Ok changed → read_from stage line (text ∷ parts) ≡ read_from changed (line + 1) parts
unfolding read_from
taken stage line text [] changed some is = absurd (false≢true (sym some))
taken stage line text (next ∷ more) changed some is =
    ap (λ r. r >>= (λ changed. read_from changed (line + 1) (next ∷ more))) is

-- behind the last line there is nothing to read
pub at_end : (stage : Stage) (line : ℕ) (text : List ℕ) → read_from stage line (text ∷ []) ≡ ended stage line text
unfolding read_from
at_end stage line text = refl

-- what is found holds what its answer does
of_found : (P : Stage → Type 0) (found : Option Stage) (line : ℕ) (changed : Stage) → ok_or found line ≡ Ok changed → P changed → IsSomeAnd found P
of_found P None line changed is holds = absurd cc
of_found P (Some stage) line changed is holds = let same : changed ≡ stage = cc in subst P same holds

-- memory may be wanted for the first line, or for one behind it
pub wants_here : (stage : Stage) (text : List ℕ) (parts : List (List ℕ)) → is_end parts ≡ false → MayWantFor stage text → WantsFrom stage (text ∷ parts)
unfolding WantsFrom
wants_here stage text [] some may = absurd (false≢true (sym some))
wants_here stage text (next ∷ more) some may = inl may

pub wants_behind : (stage : Stage) (line : ℕ) (text : List ℕ) (parts : List (List ℕ)) (changed : Stage) → is_end parts ≡ false → after stage line text ≡ Ok changed → WantsFrom changed parts → WantsFrom stage (text ∷ parts)
unfolding WantsFrom
wants_behind stage line text [] changed some is wants = absurd (false≢true (sym some))
wants_behind stage line text (next ∷ more) changed some is wants =
    inr (of_found (λ s. WantsFrom s (next ∷ more)) (option_and_then (step stage) (line_of text)) line changed is wants)

-- of want of memory less is said
pub wants_as : (wants wants' : Type 0) (fault : ScriptFault) → (wants → wants') → WantComes wants fault → WantComes wants' fault
wants_as wants wants' (faults.Line line) more comes = tt
wants_as wants wants' faults.Memory more comes = more comes

-- The script that a source has, and why it is refused.
use Rattle.std.specs.Prelude.{ℕ, ◌≡◌, ◌≤◌, ◌<◌, List, length, IfSome, Ok, Err}
use Rattle.std.specs.Io.KnownBytes.{IsAtEnd}
use Rattle.mdf_format.specs.Cause.{Rose}
use Rattle.mdf_port.specs.Source.{TakesAtMost, TakesFront}
use Rattle.mdf_port.specs.State.{SourceState}
use Rattle.acq_script.specs.Script.{WantsIn, script_of}
use Rattle.acq_script.specs.declared.script.Script.{Script}
use Rattle.mdf_command.specs.Faults.{SCRIPT_LIMIT}
use Rattle.mdf_command.specs.declared.fault.Fault.{Fault}
use Rattle.mdf_command.specs.declared.fault.Fault.TheVariants as fault

-- a beginning of what the source had was taken, be it all or nothing, and its count of faults did not fall
pub record IsTaken (old new : SourceState) : Type 0 where
  pub front : TakesFront old.left new.left
  pub later : old.faults ≤ new.faults

-- the source, where it tells its bytes, had this script; nothing of it is left, and it has not failed meanwhile
pub record SaysScript (old new : SourceState) (script : Script) : Type 0 where
  pub text : IfSome old.left (λ text. (script_of text ≡ Ok script) × (length text ≤ SCRIPT_LIMIT))
  pub end : IsAtEnd new.left
  pub taken : IsTaken old new
  pub calm : new.faults ≡ old.faults

-- why a text is no script: no rule admits a line of it, or memory was wanted for one for which it may be
abbrev pub IsNoScript : List ℕ → Fault → Type 0
IsNoScript text (fault.Script number) = script_of text ≡ Err number
IsNoScript text fault.Memory = WantsIn text
IsNoScript text _ = ⊥

-- Why a script is refused, by the source before and after. Memory was wanted before more bytes were taken than a script has
-- at most, and while the source did not fail.
abbrev pub ScriptFaultCause : SourceState → SourceState → Fault → Type 0
ScriptFaultCause old new fault.Source = Rose old.faults new.faults
ScriptFaultCause old new (fault.ScriptOver limit) = (limit ≡ SCRIPT_LIMIT) × IfSome old.left (λ text. limit < length text)
ScriptFaultCause old new fault.Memory = TakesAtMost old.left new.left SCRIPT_LIMIT × (new.faults ≡ old.faults)
ScriptFaultCause old new (fault.Script number) =
    IfSome old.left (λ text. (script_of text ≡ Err number) × (length text ≤ SCRIPT_LIMIT)) × IsAtEnd new.left × (new.faults ≡ old.faults)
ScriptFaultCause old new _ = ⊥

-- The script is refused only where this holds of the source before and after.
pub record ScriptFaultComes (old new : SourceState) (fault : Fault) : Type 0 where
  pub cause : ScriptFaultCause old new fault
  pub taken : IsTaken old new

-- The text of a source that was taken whole.
use Rattle.std.proofs.Common.{◌≡◌, ◌≤◌, ◌∙◌, ℕ, List, ◌++◌, length, Option, Some, None, Result, Ok, Err, sym, ap, subst, arith, append-nil}
use Rattle.std.specs.Prelude.{IfErr, IfOk, IfSome}
use Rattle.std.specs.Io.KnownBytes.{Consumes, IsAtEnd}
use Rattle.mdf_port.specs.State.{SourceState}
use Rattle.acq_script.specs.Script.{script_of}
use Rattle.acq_script.specs.declared.script.Script.{Script}
use Rattle.mdf_command.specs.declared.fault.Fault.{Fault}
use Rattle.mdf_command.specs.declared.fault.Fault.TheVariants as fault
use Rattle.mdf_record.specs.Script.{IsNoScript, IsTaken, SaysScript, ScriptFaultComes}
use Rattle.mdf_command.specs.Faults.{SCRIPT_LIMIT}

-- what holds of it holds of what the source had, where that is told
whole : (old new : Option (List ℕ)) (text : List ℕ) (P : List ℕ → Type 0) → Consumes old new text → IsAtEnd new → P text → IfSome old P
whole None new text P takes end is = tt
whole (Some bytes) None text P takes end is = absurd takes
whole (Some bytes) (Some rest) text P takes end is = subst P (sym (takes ∙ ap (λ (r : List ℕ). text ++ r) end ∙ append-nil text)) is

module _ (old new : SourceState) (text : List ℕ) (takes : Consumes old.left new.left text) (end : IsAtEnd new.left) (short : length text ≤ SCRIPT_LIMIT)
    (calm : new.faults ≡ old.faults) where
  taken : IsTaken old new
  taken = record { front = (text, takes); later = omega (arith, calm) }

  text_says : (script : Script) → script_of text ≡ Ok script → SaysScript old new script
  text_says script is = record {
    text = whole old.left new.left text (λ t. (script_of t ≡ Ok script) × (length t ≤ SCRIPT_LIMIT)) takes end (is, short);
    end = end;
    taken = taken;
    calm = calm;
  }

  text_refused : (problem : Fault) → IsNoScript text problem → ScriptFaultComes old new problem
  text_refused (fault.Script number) is = record {
    cause = (whole old.left new.left text (λ t. (script_of t ≡ Err number) × (length t ≤ SCRIPT_LIMIT)) takes end (is, short), end, calm);
    taken = taken;
  }
  text_refused fault.Memory is = record { cause = ((text, takes, short), calm); taken = taken }
  text_refused problem is = absurd is

  -- what an answer says of the text it says of the source
  pub says_of : (answer : Result Script Fault) → IfOk answer (λ script. script_of text ≡ Ok script) → IfOk answer (SaysScript old new)
  says_of (Ok script) is = text_says script is
  says_of (Err problem) is = tt

  pub refused_of : (answer : Result Script Fault) → IfErr answer (IsNoScript text) → IfErr answer (ScriptFaultComes old new)
  refused_of (Ok script) is = tt
  refused_of (Err problem) is = text_refused problem is

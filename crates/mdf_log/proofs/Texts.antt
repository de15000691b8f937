-- The text of a setup, and the source that had it.
use Rattle.std.proofs.Common.{◌≡◌, ◌≤◌, ◌∙◌, ℕ, List, [], ◌++◌, length, replicate, Option, Some, None, Result, Ok, Err, sym, ap, subst, arith, append-nil, refl, inr}
use Rattle.std.specs.Prelude.{IfErr, IfOk, IfSome}
use Rattle.std.specs.Io.KnownBytes.{Consumes, IsAtEnd}
use Rattle.mdf_port.specs.State.{SourceState}
use Rattle.acq_script.specs.Plan.{IsPlan}
use Rattle.acq_script.specs.Script.{script_of}
use Rattle.acq_script.specs.Stage.{IsScript}
use Rattle.acq_script.specs.declared.script.Plan.{Plan}
use Rattle.acq_script.specs.declared.script.Script.{Script}
use Rattle.acq_script.specs.declared.script.Task.{Task}
use Rattle.mdf_command.specs.Faults.{SCRIPT_LIMIT}
use Rattle.mdf_command.specs.declared.fault.Fault.{Fault}
use Rattle.mdf_command.specs.declared.fault.Fault.TheVariants as fault
use Rattle.mdf_log.specs.Setup.{END, IsNoSetup, IsSetup, SaysSetup, SetupFaultComes, idle_script}

-- what holds of a text that was taken whole holds of what the source had, where that is told
whole : (old new : Option (List ℕ)) (text : List ℕ) (P : List ℕ → Type 0) → Consumes old new text → IsAtEnd new → P text → IfSome old P
whole None new text P takes end is = tt
whole (Some bytes) None text P takes end is = absurd takes
whole (Some bytes) (Some rest) text P takes end is = subst P (sym (takes ∙ ap (λ (r : List ℕ). text ++ r) end ∙ append-nil text)) is

-- a script is that of its plan in which no source does anything, just where its lists are empty
pub idle_is : (script : Script) → IsScript script → script.lists ≡ replicate (length script.lists) [] → script ≡ idle_script script.plan
idle_is script is none = ap (λ (lists : List (List Task)). record { plan = script.plan; lists = lists }) (none ∙ ap (λ (n : ℕ). replicate n []) is.lists)

pub none_is : (script : Script) → IsScript script → script ≡ idle_script script.plan → script.lists ≡ replicate (length script.lists) []
none_is script is idle = ap (λ (s : Script). s.lists) idle ∙ ap (λ (n : ℕ). replicate n []) (sym is.lists)

module _ (text : List ℕ) (script : Script) (says : script_of (text ++ END) ≡ Ok script) (is_script : IsScript script) where
  pub setup_of : (answer : Result Plan Fault) → IfOk answer (λ plan. script ≡ idle_script plan) → IfOk answer (IsSetup text)
  setup_of (Ok plan) idle = says ∙ ap Ok idle
  setup_of (Err problem) idle = tt

  pub plan_of : (answer : Result Plan Fault) → IfOk answer (λ plan. script ≡ idle_script plan) → IfOk answer IsPlan
  plan_of (Ok plan) idle = subst (λ (s : Script). IsPlan s.plan) idle is_script.plan
  plan_of (Err problem) idle = tt

  pub busy_of : (answer : Result Plan Fault) → IfErr answer (λ problem. (problem ≡ fault.Script 0) × ¬ (script ≡ idle_script script.plan)) → IfErr answer (IsNoSetup text)
  busy_of (Ok plan) busy = tt
  busy_of (Err problem) busy =
      subst (IsNoSetup text) (sym busy.0) (inr (record { script = script; says = says; busy = busy.1; number_is = refl }))

module _ (old new : SourceState) (text : List ℕ) (takes : Consumes old.left new.left text) (end : IsAtEnd new.left) (short : length text ≤ SCRIPT_LIMIT)
    (calm : new.faults ≡ old.faults) where
  text_refused : (problem : Fault) → IsNoSetup text problem → SetupFaultComes old new problem
  text_refused (fault.Script number) is = record {
    cause = (whole old.left new.left text (λ t. IsNoSetup t (fault.Script number) × (length t ≤ SCRIPT_LIMIT)) takes end (is, short), end, calm);
    taken = (text, takes);
    later = omega (arith, calm);
  }
  text_refused fault.Memory is = record { cause = ((text, takes, short), calm); taken = (text, takes); later = omega (arith, calm) }
  text_refused problem is = absurd is

  -- what an answer says of the text it says of the source
  pub says_of : (answer : Result Plan Fault) → IfOk answer (IsSetup text) → IfOk answer (SaysSetup old new)
  says_of (Ok plan) is = record {
    text = whole old.left new.left text (λ t. IsSetup t plan × (length t ≤ SCRIPT_LIMIT)) takes end (is, short);
    end = end;
    taken = (text, takes);
    calm = calm;
  }
  says_of (Err problem) is = tt

  pub refused_of : (answer : Result Plan Fault) → IfErr answer (IsNoSetup text) → IfErr answer (SetupFaultComes old new)
  refused_of (Ok plan) is = tt
  refused_of (Err problem) is = text_refused problem is

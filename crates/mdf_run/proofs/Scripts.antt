-- Which script the words ask to record.
use Rattle.std.proofs.Common.{◌≡◌, ℕ, List, Option, Some, Ok, subst, arith}
use Rattle.std.specs.Fmt.{decimal}
use Rattle.std.proofs.lemmas.Fmt.{decimal_injective}
use Rattle.acq_script.specs.Script.{script_of}
use Rattle.acq_script.specs.declared.script.Script.{Script}
use Rattle.acq_script.specs.Generated.{generated_script}
use Rattle.mdf_command.specs.Words.{Asks, IsUsage, recorded}
use Rattle.mdf_command.specs.declared.command.Origin.TheVariants.{Source, Generated}
use Rattle.mdf_run.specs.Kept.{IfRecorded, OfRecording}

-- no words ask for a recording of both scripts
other_script : (words : List (List ℕ)) (output : List ℕ) (samples : ℕ) (name : List ℕ) → Asks words (recorded output Source) → ¬ Asks words (recorded name (Generated samples))
other_script words output samples name asks also = absurd (cc (asks.0, also.0))

-- and of one number of samples at most
pub one_number : (words : List (List ℕ)) (samples : ℕ) (output : List ℕ) (number : ℕ) (name : List ℕ) → Asks words (recorded output (Generated samples))
    → Asks words (recorded name (Generated number)) → samples ≡ number
one_number words samples output number name asks also =
    let written : decimal samples ≡ decimal number = cc (asks.0, also.0) in
    decimal_injective samples number (omega (arith, asks.1)) (omega (arith, also.1)) written

pub of_record : (words : List (List ℕ)) (left : Option (List ℕ)) (P : Script → Type 0) (output : List ℕ) → Asks words (recorded output Source)
    → ((text : List ℕ) → left ≡ Some text → (script : Script) → script_of text ≡ Ok script → P script) → OfRecording words left P
of_record words left P output asks holds = (
  λ name also text told script means. holds text told script means,
  λ samples name also. absurd (other_script words output samples name asks also),
)

pub of_generated : (words : List (List ℕ)) (left : Option (List ℕ)) (P : Script → Type 0) (samples : ℕ) (output : List ℕ) → Asks words (recorded output (Generated samples))
    → P (generated_script samples) → OfRecording words left P
of_generated words left P samples output asks holds = (
  λ name also text told script means. absurd (other_script words name samples output also asks),
  λ number name also. subst (λ n. P (generated_script n)) (one_number words samples output number name asks also) holds,
)

-- words that are no command ask for none
pub of_none : (words : List (List ℕ)) (left : Option (List ℕ)) (P : Script → Type 0) → IsUsage words → OfRecording words left P
of_none words left P none = (
  λ name asks text told script means. absurd (none (recorded name Source) asks),
  λ samples name asks. absurd (none (recorded name (Generated samples)) asks),
)

pub if_none : (words : List (List ℕ)) (P : Type 0) → IsUsage words → IfRecorded words P
if_none words P none = (λ name asks. absurd (none (recorded name Source) asks), λ samples name asks. absurd (none (recorded name (Generated samples)) asks))

-- Words that say how many samples are generated.
use Rattle.std.proofs.Common.{◌≡◌, ◌∙◌, ℕ, List, sym, subst, arith}
use Rattle.std.proofs.lemmas.Fmt.{decimal_injective}
use Rattle.script_line.specs.Number.{IsNumber}
use Rattle.mdf_command.specs.Words.{IsGenerable, IsNoCount}

-- a number that is out of range says not how many samples are generated
pub no_count : (word : List ℕ) (number : ℕ) → IsNumber word number → ¬ IsGenerable number → IsNoCount word
no_count word number is other = λ samples also.
    let one : samples ≡ number = decimal_injective samples number (omega (arith, also.1)) is.1 (sym also.0 ∙ is.0) in
    absurd (other (subst IsGenerable one also.1))

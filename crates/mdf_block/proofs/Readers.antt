-- What a reader over a span says, from what it found and what it leaves.
use Rattle.std.proofs.Common.{◌≡◌, ℕ, Bool, List, Option, Some, Result}
use Rattle.std.specs.Prelude.{IfOk, IfErr}
use Rattle.mdf_num.specs.Halt.{StopCause, HaltCause}
use Rattle.mdf_num.specs.declared.halt.Stop.{Stop}
use Rattle.mdf_num.specs.declared.halt.Halt.{Halt}
use Rattle.mdf_num.specs.declared.span.Span.{Ghosts}
use Rattle.mdf_block.specs.Refusal.{Refusal, IsPlain}
use Rattle.mdf_block.specs.Reads.{Says, Looks}

-- all but what was found
pub record Leaves {P E A : Type 0} (tells : Ghosts P) (old new : P) (may_want : Bool) (refusal : E → Option Refusal) (result : Result A (Halt E)) : Type 0 where
  pub plain : IfErr result (IsPlain refusal)
  pub same : tells.bytes new ≡ tells.bytes old
  pub size : tells.size new ≡ tells.size old
  pub cause : HaltCause may_want (tells.faults old) (tells.faults new) result

pub says_of : {P E A : Type 0} {tells : Ghosts P} {old new : P} {may_want : Bool} {refusal : E → Option Refusal} {result : Result A (Halt E)} {Holds : List ℕ → Type 0}
    → Leaves tells old new may_want refusal result → ((file : List ℕ) → tells.bytes old ≡ Some file → Holds file)
    → Says tells old new may_want refusal result Holds
says_of left found = record { found = found; plain = left.plain; same = left.same; size = left.size; cause = left.cause }

-- the same of a look
pub record Stays {P A : Type 0} (tells : Ghosts P) (old new : P) (may_want : Bool) (result : Result A Stop) : Type 0 where
  pub same : tells.bytes new ≡ tells.bytes old
  pub size : tells.size new ≡ tells.size old
  pub cause : StopCause may_want (tells.faults old) (tells.faults new) result

pub looks_of : {P A : Type 0} {tells : Ghosts P} {old new : P} {may_want : Bool} {result : Result A Stop} {IsSeen : List ℕ → A → Type 0}
    → Stays tells old new may_want result → IfOk result (λ x. (file : List ℕ) → tells.bytes old ≡ Some file → IsSeen file x)
    → Looks tells old new may_want result IsSeen
looks_of left seen = record { seen = seen; same = left.same; size = left.size; cause = left.cause }

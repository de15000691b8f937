-- What a reader over a span says of the file, and what it leaves of the span. In a clause of code that is generic in
-- P: Span the first argument is `P.Span`.
use Rattle.std.specs.Prelude.{ℕ, ◌≡◌, Bool, List, Option, Some, Result, IfOk, IfErr}
use Rattle.mdf_num.specs.Halt.{StopCause, HaltCause}
use Rattle.mdf_num.specs.declared.halt.Stop.{Stop}
use Rattle.mdf_num.specs.declared.halt.Halt.{Halt}
use Rattle.mdf_num.specs.declared.span.Span.{Ghosts}
use Rattle.mdf_block.specs.Refusal.{Refusal, Read, Gives, IsPlain}

-- where the span tells the bytes this holds of the file; want of memory is never inside a fault; the bytes and their number
-- stay; and it stops only where the span failed, and wants memory only where it may
pub record Says {P E A : Type 0} (tells : Ghosts P) (old new : P) (may_want : Bool) (refusal : E → Option Refusal) (result : Result A (Halt E)) (Holds : List ℕ → Type 0) : Type 0 where
  pub found : (file : List ℕ) → tells.bytes old ≡ Some file → Holds file
  pub plain : IfErr result (IsPlain refusal)
  pub same : tells.bytes new ≡ tells.bytes old
  pub size : tells.size new ≡ tells.size old
  pub cause : HaltCause may_want (tells.faults old) (tells.faults new) result

-- the answer is what stands in the file, or the first reason to refuse it
abbrev pub Reads : {P E A : Type 0} → Ghosts P → P → P → Bool → (E → Option Refusal) → Result A (Halt E) → (List ℕ → Read A) → Type 0
Reads tells old new may_want refusal result stands =
    Says tells old new may_want refusal result (λ file. Gives refusal result (stands file))

-- the same of what is looked at without a reason to refuse: this holds of what is seen
pub record Looks {P A : Type 0} (tells : Ghosts P) (old new : P) (may_want : Bool) (result : Result A Stop) (IsSeen : List ℕ → A → Type 0) : Type 0 where
  pub seen : IfOk result (λ x. (file : List ℕ) → tells.bytes old ≡ Some file → IsSeen file x)
  pub same : tells.bytes new ≡ tells.bytes old
  pub size : tells.size new ≡ tells.size old
  pub cause : StopCause may_want (tells.faults old) (tells.faults new) result

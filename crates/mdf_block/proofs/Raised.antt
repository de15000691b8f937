-- What a reader says stays true of the reader above that raises its halt, where the fault above stands for the same refusal.
use Rattle.std.proofs.Common.{◌≡◌, ℕ, Bool, true, false, List, Option, Result}
use Rattle.std.specs.Prelude.{Ok, Err, IfOk, IfErr, MatchResult, IsErrAnd}
use Rattle.mdf_num.specs.Halt.{HaltReason, Raises}
use Rattle.mdf_num.specs.declared.halt.Halt.{Halt}
use Rattle.mdf_num.specs.declared.halt.Halt.TheVariants as halts
use Rattle.mdf_num.specs.declared.span.Span.{Ghosts}
use Rattle.mdf_block.specs.Refusal.{Refusal, Read, Renames, Gives, HidesNone, IsPlain}
use Rattle.mdf_block.specs.Reads.{Reads}

-- what is answered below is answered above, and a halt below is raised
abbrev pub IsRaised : {E F A : Type 0} → (E → F → Type 0) → Result A (Halt E) → Result A (Halt F) → Type 0
IsRaised from_gives one other = MatchResult one (λ x. other ≡ Ok x) (λ halt. IsErrAnd other (Raises from_gives halt))

module _ {E F A : Type 0} (below : E → Option Refusal) (above : F → Option Refusal) where
  gives_raised : (one : Result A (Halt E)) (other : Result A (Halt F)) (read : Read A) → IsRaised (Renames below above) one other
      → Gives below one read → Gives above other read
  gives_raised (Ok x) other read is gives = rw is gives
  gives_raised (Err halt) (Ok x) read is gives = absurd is
  gives_raised (Err (halts.Fault fault)) (Err halt) read is gives = rw is.1 (rw is.2 gives)
  gives_raised (Err halts.Failed) (Err halt) read is gives = rw is tt
  gives_raised (Err halts.Memory) (Err halt) read is gives = rw is tt

  plain_raised : (one : Result A (Halt E)) (other : Result A (Halt F)) → IsRaised (Renames below above) one other
      → IfErr one (IsPlain below) → IfErr other (IsPlain above)
  plain_raised (Ok x) other is plain = rw is tt
  plain_raised (Err halt) (Ok x) is plain = absurd is
  plain_raised (Err (halts.Fault fault)) (Err halt) is plain = rw is.1 (rw is.2 plain)
  plain_raised (Err halts.Failed) (Err halt) is plain = rw is tt
  plain_raised (Err halts.Memory) (Err halt) is plain = rw is tt

  reason_raised : (may_want : Bool) (before now : ℕ) (one : Result A (Halt E)) (other : Result A (Halt F)) → IsRaised (Renames below above) one other
      → IfErr one (HaltReason may_want before now) → IfErr other (HaltReason may_want before now)
  reason_raised may_want before now (Ok x) other is reason = rw is tt
  reason_raised may_want before now (Err halt) (Ok x) is reason = absurd is
  reason_raised may_want before now (Err (halts.Fault fault)) (Err halt) is reason = rw is.1 tt
  reason_raised may_want before now (Err halts.Failed) (Err halt) is reason = rw is reason
  reason_raised may_want before now (Err halts.Memory) (Err halt) is reason = rw is reason

  pub hides_raised : {B : Type 0} (may_want : Bool) (one : Result A (Halt E)) (other : Result A (Halt F)) (read : Read B)
      → IsRaised (Renames below above) one other → HidesNone may_want one read → HidesNone may_want other read
  hides_raised true one other read is hides = tt
  hides_raised false (Ok x) other read is hides = rw is tt
  hides_raised false (Err halt) (Ok x) read is hides = absurd is
  hides_raised false (Err (halts.Fault fault)) (Err halt) read is hides = rw is.1 tt
  hides_raised false (Err halts.Failed) (Err halt) read is hides = rw is tt
  hides_raised false (Err halts.Memory) (Err halt) read is hides = rw is hides

  pub if_ok_raised : (P : A → Type 0) (one : Result A (Halt E)) (other : Result A (Halt F)) → IsRaised (Renames below above) one other
      → IfOk one P → IfOk other P
  if_ok_raised P (Ok x) other is holds = rw is holds
  if_ok_raised P (Err halt) (Ok x) is none = absurd is
  if_ok_raised P (Err halt) (Err other) is none = tt

-- a reader that raises the halt of another one says the same as it
pub reads_raised : {P E F A : Type 0} {tells : Ghosts P} {old new : P} {may_want : Bool} {below : E → Option Refusal} {above : F → Option Refusal}
    {one : Result A (Halt E)} {other : Result A (Halt F)} (stands : List ℕ → Read A)
    → IsRaised (Renames below above) one other → Reads tells old new may_want below one stands → Reads tells old new may_want above other stands
reads_raised {below} {above} {one} {other} stands is reads = record {
  found = λ file told. gives_raised below above one other (stands file) is (reads.found file told);
  plain = plain_raised below above one other is reads.plain;
  same = reads.same;
  size = reads.size;
  cause = record { later = reads.cause.later; reason = reason_raised below above _ _ _ one other is reads.cause.reason };
}

-- Why a reader stopped that had called others before.
use Rattle.std.proofs.Common.{◌≤◌, ℕ, Bool, Err, arith}
use Rattle.mdf_num.specs.Halt.{HaltCause, HaltReason}
use Rattle.mdf_num.specs.declared.halt.Halt.{Halt}
use Rattle.mdf_num.specs.declared.halt.Halt.TheVariants as halts

reason_after : {E : Type 0} (may_want : Bool) (before mid now : ℕ) → before ≤ mid → (halt : Halt E) → HaltReason may_want mid now halt
    → HaltReason may_want before now halt
reason_after may_want before mid now earlier (halts.Fault fault) reason = tt
reason_after may_want before mid now earlier halts.Failed reason = omega (arith, earlier, reason)
reason_after may_want before mid now earlier halts.Memory reason = reason

-- the last of its calls stopped
pub cause_after : {T U E : Type 0} (may_want : Bool) (before mid now : ℕ) (halt : Halt E) → before ≤ mid
    → HaltCause {T = U} may_want mid now (Err halt) → HaltCause {T = T} may_want before now (Err halt)
cause_after may_want before mid now halt earlier cause = record {
  later = omega (arith, earlier, cause.later);
  reason = reason_after may_want before mid now earlier halt cause.reason;
}

-- Why a span, and a reader over a span, stopped.
use Rattle.std.specs.Prelude.{ℕ, ◌≡◌, ◌≤◌, Bool, true, false, Result, IfErr}
use Rattle.mdf_format.specs.Cause.{Rose}
use Rattle.mdf_num.specs.declared.halt.Stop.{Stop}
use Rattle.mdf_num.specs.declared.halt.Stop.TheVariants as stops
use Rattle.mdf_num.specs.declared.halt.Halt.{Halt}
use Rattle.mdf_num.specs.declared.halt.Halt.TheVariants as halts

-- the same reason for a reader, whatever faults it has
abbrev pub halt_of : (E : Type 0) → Stop → Halt E
halt_of E stops.Failed = halts.Failed
halt_of E stops.Memory = halts.Memory

-- want of memory for a reader, whatever faults it has
abbrev pub memory_halt : (E : Type 0) → Halt E
memory_halt E = halts.Memory

-- the halt of a reader above another one: its fault comes from the fault below, and any other halt stays what it is
abbrev pub Raises : {E F : Type 0} → (E → F → Type 0) → Halt E → Halt F → Type 0
Raises {E} {F} from_gives (halts.Fault fault) halt = (raised : F) × (halt ≡ halts.Fault raised) × from_gives fault raised
Raises from_gives halts.Failed halt = halt ≡ halts.Failed
Raises from_gives halts.Memory halt = halt ≡ halts.Memory

-- memory may be wanted
abbrev pub Wants : Bool → Type 0
Wants true = Unit {0}
Wants false = ⊥

-- why a span stopped, where memory may be wanted or not
abbrev pub StopReason : Bool → ℕ → ℕ → Stop → Type 0
StopReason may_want before now stops.Failed = Rose before now
StopReason may_want before now stops.Memory = Wants may_want

abbrev pub HaltReason : {E : Type 0} → Bool → ℕ → ℕ → Halt E → Type 0
HaltReason may_want before now (halts.Fault fault) = Unit {0}
HaltReason may_want before now halts.Failed = Rose before now
HaltReason may_want before now halts.Memory = Wants may_want

-- the count of faults never falls, a call of a span fails only where it rose or stands at the last value, and wants
-- memory only where it may
pub record StopCause {T : Type 0} (may_want : Bool) (before now : ℕ) (result : Result T Stop) : Type 0 where
  pub later : before ≤ now
  pub reason : IfErr result (StopReason may_want before now)

-- the same of a reader over a span
pub record HaltCause {T E : Type 0} (may_want : Bool) (before now : ℕ) (result : Result T (Halt E)) : Type 0 where
  pub later : before ≤ now
  pub reason : IfErr result (HaltReason may_want before now)

-- Steps one after another, taken apart.
use Rattle.std.proofs.Common.{◌≡◌, Bool, true, false, Option, Some, None, Result, Ok, Err, refl, ap, ◌⊎◌, inl, inr}
use Rattle.mdf_num.specs.declared.halt.Halt.{Halt}
use Rattle.mdf_num.specs.declared.halt.Halt.TheVariants as halts
use Rattle.mdf_block.specs.Refusal.{Refusal, Read, ◌>>=◌, Refuses, Fails, Halts, HidesNone}

-- both steps found something
pub bind_ok : {A B : Type 0} (read : Read A) (next : A → Read B) (y : B) → (read >>= next) ≡ Ok y
    → (x : A) × (read ≡ Ok x) × (next x ≡ Ok y)
bind_ok (Ok x) next y found = (x, refl, found)
bind_ok (Err refusal) next y found = cc

-- the first step refused, or the second did
pub bind_err : {A B : Type 0} (read : Read A) (next : A → Read B) (refusal : Refusal) → (read >>= next) ≡ Err refusal
    → (read ≡ Err refusal) ⊎ ((x : A) × (read ≡ Ok x) × (next x ≡ Err refusal))
bind_err (Ok x) next refusal refused = inr (x, refl, refused)
bind_err (Err first) next refusal refused = let same : first ≡ refusal = cc in inl (ap Err same)

-- where the first step refuses, both do
pub refuses_then : {A B : Type 0} (fault : Option Refusal) (read : Read A) (next : A → Read B) → Refuses fault read
    → Refuses fault (read >>= next)
refuses_then None read next refused = refused
refuses_then (Some refusal) read next refused = ap (λ r. r >>= next) refused

pub halts_then : {E A B : Type 0} (refusal : E → Option Refusal) (halt : Halt E) (read : Read A) (next : A → Read B)
    → Halts refusal halt read → Halts refusal halt (read >>= next)
halts_then refusal (halts.Fault fault) read next halted = refuses_then (refusal fault) read next halted
halts_then refusal halts.Failed read next halted = tt
halts_then refusal halts.Memory read next halted = tt

-- where something is found, want of memory hides nothing
pub hides_none : {E A B : Type 0} (may_want : Bool) (result : Result A (Halt E)) (read : Read B) (x : B) → read ≡ Ok x
    → HidesNone may_want result read
hides_none true result read x found = tt
hides_none false (Ok y) read x found = tt
hides_none false (Err (halts.Fault fault)) read x found = tt
hides_none false (Err halts.Failed) read x found = tt
hides_none false (Err halts.Memory) read x found = (x, found)

-- a fault of a reader over a span is one of a reader of bytes
pub refuses_fails : {A : Type 0} (fault : Option Refusal) (read : Read A) → Refuses fault read → Fails fault read
refuses_fails None read refused = absurd refused
refuses_fails (Some refusal) read refused = refused

-- What it means that a source was not taken whole.
use Rattle.std.specs.Prelude.{ℕ, ◌≡◌, ◌<◌, ◌≤◌, List, length, Option, IfSome}
use Rattle.std.specs.Io.KnownBytes.{Consumes}
use Rattle.mdf_format.specs.Cause.{Rose}
use Rattle.mdf_port.specs.declared.source.TakeFault.{TakeFault}
use Rattle.mdf_port.specs.declared.source.TakeFault.TheVariants.{Failed, TooLong, Memory}

-- known bytes lost some front
abbrev pub TakesFront : Option (List ℕ) → Option (List ℕ) → Type 0
TakesFront old new = (front : List ℕ) × Consumes old new front

-- known bytes lost some front of at most so many
abbrev pub TakesAtMost : Option (List ℕ) → Option (List ℕ) → ℕ → Type 0
TakesAtMost old new most = (front : List ℕ) × Consumes old new front × (length front ≤ most)

-- over a source with these bytes left before and these now, whose count of faults was `before` and is `now`
abbrev pub TakeCause : Option (List ℕ) → Option (List ℕ) → ℕ → ℕ → ℕ → TakeFault → Type 0
TakeCause old new before now most Failed = Rose before now
TakeCause old new before now most (TooLong limit) = (limit ≡ most) × IfSome old (λ bytes. most < length bytes)
TakeCause old new before now most Memory = TakesAtMost old new most × (now ≡ before)

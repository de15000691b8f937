-- Why a file could not be read whole.
use Rattle.std.specs.Prelude.{ℕ, ◌≡◌, ◌<◌, ◌≤◌, List, length, Option, IfSome}
use Rattle.mdf_format.specs.Cause.{Rose}
use Rattle.mdf_disk.specs.declared.load.LoadFault.{LoadFault}
use Rattle.mdf_disk.specs.declared.load.LoadFault.TheVariants.{Failed, TooLong, Memory}

-- over a disk with this content, whose count of faults was `before` and is `now`
abbrev pub LoadCause : Option (List ℕ) → ℕ → ℕ → ℕ → LoadFault → Type 0
LoadCause content before now most Failed = Rose before now
LoadCause content before now most (TooLong size limit) =
    (limit ≡ most) × (limit < size) × IfSome content (λ file. size ≡ length file)
LoadCause content before now most Memory = IfSome content (λ file. length file ≤ most) × (now ≡ before)

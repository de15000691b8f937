-- What is asked of the disks.
use Rattle.std.specs.Prelude.{ℕ, ◌≡◌, ◌⊎◌, List, Option, Some, None}
use Rattle.mdf_disk.specs.declared.disk.Disk.{Ghosts}
use Rattle.mdf_disk.specs.declared.role.Role.{Role}
use Rattle.mdf_disk.specs.declared.role.Role.TheVariants.{Read, Create}

-- a disk was asked for nothing, or for this file in this role
abbrev pub AsksOnly : Role → Option (List ℕ) → Option (List ℕ × Role) → Type 0
AsksOnly role None asked = asked ≡ None
AsksOnly role (Some name) asked = (asked ≡ None) ⊎ (asked ≡ Some (name, role))

-- A disk was asked for this file alone, to be read: its content is as before, and it is as before where it was asked for nothing.
pub record IsOnlyRead {D : Type 0} (tells : Ghosts D) (name : Option (List ℕ)) (old new : D) : Type 0 where
  pub asked : AsksOnly Read name (tells.asked new)
  pub content : tells.content new ≡ tells.content old
  pub untouched : tells.asked new ≡ None → new ≡ old

-- A disk was asked for this file alone, to be made; it is as before where it was asked for nothing.
pub record IsOnlyMade {D : Type 0} (tells : Ghosts D) (name : Option (List ℕ)) (old new : D) : Type 0 where
  pub asked : AsksOnly Create name (tells.asked new)
  pub untouched : tells.asked new ≡ None → new ≡ old

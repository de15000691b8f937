-- What no call of a disk but an attach changes.
use Rattle.std.specs.Prelude.{ℕ, ◌≡◌, ◌≤◌, Bool, List, Option}
use Rattle.mdf_disk.specs.declared.role.Role.{Role}

-- What was asked for stays, and so does whether the file is attached. The clock never falls.
pub record Stays {D : Type 0} (asked : D → Option (List ℕ × Role)) (attached : D → Bool) (moment : D → ℕ) (old new : D)
    : Type 0 where
  pub asked_is : asked new ≡ asked old
  pub attached_is : attached new ≡ attached old
  pub later : moment old ≤ moment new

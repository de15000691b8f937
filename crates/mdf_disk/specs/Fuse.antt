-- A disk that passes only so many calls on.
use Rattle.std.specs.Prelude.{ℕ, ◌≡◌, ◌-◌, ◌<◌, Result, IsErr}
use Rattle.mdf_format.specs.Cause.{HasCause}
use Rattle.mdf_disk.specs.declared.fuse.Fuse.{Fuse}

-- the disk under it, and how many calls it still passes on
abbrev pub disk_of : {D : Type 0} → Fuse D → D
disk_of fuse = fuse.disk

abbrev pub left_of : {D : Type 0} → Fuse D → ℕ
left_of fuse = fuse.left

-- A call takes one of those that are left. Where none was left, it failed and the disk under it was asked nothing. Where one
-- was left, it failed only with a fault of that disk.
pub record Burns {D T E : Type 0} (faults : D → ℕ) (old new : Fuse D) (result : Result T E) : Type 0 where
  pub counted : left_of new ≡ left_of old - 1
  pub spent : left_of old ≡ 0 → IsErr result × (disk_of new ≡ disk_of old)
  pub passed : 0 < left_of old → HasCause (faults (disk_of old)) (faults (disk_of new)) result

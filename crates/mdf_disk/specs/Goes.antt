-- What the layers above a disk leave of it. In a clause of code that is generic in D: Disk the first argument is
-- `D.Disk`.
use Rattle.std.specs.Prelude.{◌≡◌, ◌≤◌, is_some}
use Rattle.mdf_disk.specs.declared.disk.Disk.{Ghosts}

-- The disk goes on: what was asked for stays. So does whether the file is attached, and whether the disk tells its story
-- and its content. The clock never falls.
pub record GoesOn {D : Type 0} (tells : Ghosts D) (old new : D) : Type 0 where
  pub asked : tells.asked new ≡ tells.asked old
  pub attached : tells.attached new ≡ tells.attached old
  pub moment : tells.moment old ≤ tells.moment new
  pub told : is_some (tells.story new) ≡ is_some (tells.story old)
  pub told_content : is_some (tells.content new) ≡ is_some (tells.content old)

-- The disk was only read: its content and its story stay too.
pub record OnlyRead {D : Type 0} (tells : Ghosts D) (old new : D) : Type 0 where
  pub asked : tells.asked new ≡ tells.asked old
  pub attached : tells.attached new ≡ tells.attached old
  pub content : tells.content new ≡ tells.content old
  pub story : tells.story new ≡ tells.story old
  pub moment : tells.moment old ≤ tells.moment new

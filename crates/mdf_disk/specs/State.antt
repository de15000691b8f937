-- All that a disk tells, as one record: contracts of layers above a disk then take one argument for it, and name no type
-- of a disk.
use Rattle.std.specs.Prelude.{ℕ, Bool, List, Option}
use Rattle.mdf_disk.specs.Story.{Story}
use Rattle.mdf_disk.specs.declared.disk.Disk.{Ghosts}
use Rattle.mdf_disk.specs.declared.role.Role.{Role}

pub record DiskState : Type 0 where
  pub asked : Option (List ℕ × Role)
  pub attached : Bool
  pub content : Option (List ℕ)
  pub story : Option Story
  pub moment : ℕ
  pub faults : ℕ

-- what this disk tells. In a clause of code that is generic in D: Disk it is `state_of D.Disk d`
abbrev pub state_of : {D : Type 0} → Ghosts D → D → DiskState
state_of tells d = record {
  asked = tells.asked d;
  attached = tells.attached d;
  content = tells.content d;
  story = tells.story d;
  moment = tells.moment d;
  faults = tells.faults d;
}

-- Why bytes of a disk were not read.
use Rattle.std.specs.Prelude.{ℕ, ◌≡◌, true, Result, IfErr, OnOk}
use Rattle.mdf_format.specs.Cause.{Rose}
use Rattle.mdf_num.specs.Halt.{StopCause}
use Rattle.mdf_disk.specs.Goes.{OnlyRead}
use Rattle.mdf_disk.specs.declared.disk.Disk.{Ghosts}
use Rattle.mdf_num.specs.declared.halt.Stop.{Stop}
use Rattle.mdf_num.specs.declared.halt.Stop.TheVariants.{Failed, Memory}

-- of a disk whose count of faults was `before` and is `now`; where memory was wanting, the disk did not fail
abbrev pub ReadCause : ℕ → ℕ → Stop → Type 0
ReadCause before now Failed = Rose before now
ReadCause before now Memory = now ≡ before

-- How a call ends that reads a disk: the disk was only read, no fault of it is told as want of memory, and where the call
-- succeeded none was counted.
pub record ReadEnds {D T : Type 0} (tells : Ghosts D) (old new : D) (result : Result T Stop) : Type 0 where
  pub only_read : OnlyRead tells old new
  pub cause : StopCause true (tells.faults old) (tells.faults new) result
  pub reason : IfErr result (ReadCause (tells.faults old) (tells.faults new))
  pub calm : OnOk result (tells.faults new ≡ tells.faults old)

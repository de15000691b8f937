-- What is done with the disks of a recording in parts: one is handed out, or taken back, as it is then.
use Rattle.mdf_disk.specs.State.{DiskState}

pub data Served : Type 0 where
  handed_out : DiskState → Served
  taken_back : DiskState → Served

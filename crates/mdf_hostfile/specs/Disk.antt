-- What a disk over a real file has.
use Rattle.mdf_num.specs.declared.system.SystemFaults.{SystemFaults}
use Rattle.mdf_hostfile.specs.declared.file.FileDisk.{FileDisk}

-- the file under it
abbrev pub system_of : {S : Type 0} → FileDisk S → S
system_of disk = disk.system

-- how often it has failed, and what the system said last
abbrev pub faults_of : {S : Type 0} → FileDisk S → SystemFaults
faults_of disk = disk.faults

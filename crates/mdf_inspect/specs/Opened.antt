-- The command `opened IN`.
use Rattle.std.specs.Prelude.{ℕ, List, [], ◌∷◌, codes, Result, Ok, Err}
use Rattle.std.specs.Fmt.{decimal}
use Rattle.mdf_disk.specs.State.{DiskState}
use Rattle.mdf_port.specs.State.{SinkState}
use Rattle.mdf_gate.specs.Opened.{IsCountOf}
use Rattle.mdf_gate.specs.Recording.{HasNoOpened}
use Rattle.mdf_gate.specs.Fault.{HasFault}
use Rattle.mdf_gate.specs.declared.answer.Opened.{Opened}
use Rattle.mdf_command.specs.Texts.{line, Prints}
use Rattle.mdf_command.specs.Faults.{end_status, fault_line}
use Rattle.mdf_command.specs.Load.{IsLoaded, LoadFaultComes}
use Rattle.mdf_command.specs.declared.fault.Fault.{Fault}
use Rattle.mdf_command.specs.declared.fault.Fault.TheVariants as fault

-- the line with the number of the opened blocks and of their bytes
abbrev pub opened_line : Opened → List ℕ
opened_line count = line (codes "blocks " ∷ decimal count.blocks ∷ codes " bytes " ∷ decimal count.bytes ∷ [])

-- The blocks were not counted only where this holds of the disk of the input before and after: a file was loaded of it that is
-- refused, or none could be loaded.
abbrev pub OpenedFaultComes : DiskState → DiskState → Fault → Type 0
OpenedFaultComes old new (fault.Gate refused) = (file : List ℕ) × IsLoaded old file × HasFault file refused × HasNoOpened file
OpenedFaultComes old new problem = LoadFaultComes old new problem

-- The command ends with this count or this fault only where a file was loaded, which is the one that its disk tells, if it tells
-- one, and has that count or that fault; or where the disk's count of faults says that it failed.
abbrev pub OpenedComes : DiskState → DiskState → Result Opened Fault → Type 0
OpenedComes old new (Ok count) = (file : List ℕ) × IsLoaded old file × IsCountOf file count
OpenedComes old new (Err problem) = OpenedFaultComes old new problem

abbrev pub opened_text : Result Opened Fault → List ℕ
opened_text (Ok count) = opened_line count
opened_text (Err fault) = fault_line fault

-- How the command ends, by what the disk of the input and the sink tell before and after.
abbrev pub EndsOpened : DiskState → DiskState → SinkState → SinkState → ℕ → Type 0
EndsOpened disk disk' sink sink' status =
    (end : Result Opened Fault) × OpenedComes disk disk' end × Prints (opened_text end) (end_status end) sink sink' status

-- Which input a command is refused for.
use Rattle.std.specs.Prelude.{ℕ, ◌≡◌, ◌||◌, nat_eq, if◌then◌else◌, Option, Some, None, Result, Ok, Err}
use Rattle.mdf_disk.specs.State.{DiskState}
use Rattle.mdf_port.specs.State.{SinkState}
use Rattle.mdf_make.specs.declared.said.Said.{Said}
use Rattle.tool_concat.specs.Concat.{Differs, Joining, TooWide}
use Rattle.tool_concat.specs.declared.fault.ConcatFault.{ConcatFault}
use Rattle.tool_concat.specs.declared.fault.ConcatFault.TheVariants as concat
use Rattle.mdf_command.specs.Faults.{end_status}
use Rattle.mdf_command.specs.Load.{IsOver}
use Rattle.mdf_command.specs.Texts.{Prints}
use Rattle.mdf_command.specs.declared.fault.Fault.{Fault}
use Rattle.mdf_command.specs.declared.fault.Fault.TheVariants as fault
use Rattle.mdf_make.specs.Concat.{AreBothLoaded, IsRefusedWith}
use Rattle.mdf_make.specs.Attach.{IsOfCarrying}
use Rattle.mdf_make.specs.Making.{making_text}
use Rattle.mdf_make.specs.declared.blamed.Input.{Input}
use Rattle.mdf_make.specs.declared.blamed.Input.TheVariants.{First, Second, Both}
use Rattle.mdf_make.specs.declared.joining.Unjoined.{Unjoined}

-- of a command with at most one input, by its status: that one where it is refused or too long
abbrev pub only_blamed : ℕ → Option Input
only_blamed status = if nat_eq status 3 || nat_eq status 5 then Some First else None

-- of two inputs that were loaded a fault of `concat` is that of the one that is refused, or of both where they do not go together
abbrev pub IsOfJoining : Joining → Option Input → Fault → Type 0
IsOfJoining asked (Some First) (fault.Read refused) = IsRefusedWith asked.first refused
IsOfJoining asked (Some Second) (fault.Read refused) = IsRefusedWith asked.second refused
IsOfJoining asked (Some Both) (fault.Differs group) = Differs asked group
IsOfJoining asked (Some Both) (fault.Wide group channel) = TooWide asked group channel
IsOfJoining asked blamed problem = ⊥

-- so with any such word; and of none where a disk failed or memory was wanted
abbrev pub IsOfLoaded : (Joining → Option Input → Fault → Type 0) → Joining → Option Input → Fault → Type 0
IsOfLoaded Blames asked None fault.Device = Unit {0}
IsOfLoaded Blames asked None fault.Memory = Unit {0}
IsOfLoaded Blames asked blamed problem = Blames asked blamed problem

-- and of two inputs at a time in ns it is that of the one that is too long, too
abbrev pub IsOf : (Joining → Option Input → Fault → Type 0) → ℕ → DiskState → DiskState → Option Input → Fault → Type 0
IsOf Blames now disk other (Some First) (fault.InputOver size limit) = IsOver disk size limit
IsOf Blames now disk other (Some Second) (fault.InputOver size limit) = IsOver other size limit
IsOf Blames now disk other None fault.Device = Unit {0}
IsOf Blames now disk other None fault.Memory = Unit {0}
IsOf Blames now disk other blamed problem = (asked : Joining) × AreBothLoaded now disk other asked × Blames asked blamed problem

abbrev pub IsOfEnd : (Joining → Option Input → Fault → Type 0) → ℕ → DiskState → DiskState → Option Input → Result Said Fault → Type 0
IsOfEnd Blames now disk other blamed (Ok report) = blamed ≡ None
IsOfEnd Blames now disk other blamed (Err problem) = IsOf Blames now disk other blamed problem

-- A command on two inputs prints how it ended, and that input is blamed that the fault is of.
abbrev pub BlamesOne : (Joining → Option Input → Fault → Type 0) → ℕ → DiskState → DiskState → SinkState → SinkState → ℕ → Option Input → Type 0
BlamesOne Blames now disk other sink sink' status blamed =
    (end : Result Said Fault) × Prints (making_text end) (end_status end) sink sink' status × IsOfEnd Blames now disk other blamed end

-- so `concat`, and so `attach`
abbrev pub BlamesJoined : ℕ → DiskState → DiskState → SinkState → SinkState → ℕ → Option Input → Type 0
BlamesJoined = BlamesOne IsOfJoining

abbrev pub BlamesCarried : ℕ → DiskState → DiskState → SinkState → SinkState → ℕ → Option Input → Type 0
BlamesCarried = BlamesOne IsOfCarrying

-- the input that is blamed by the fault that tells one of two
abbrev pub unread_blamed : Input → Fault → Option Input
unread_blamed input (fault.InputOver size limit) = Some input
unread_blamed input problem = None

abbrev pub concat_blamed : ConcatFault → Option Input
concat_blamed (concat.First refused) = Some First
concat_blamed (concat.Second refused) = Some Second
concat_blamed (concat.Differs group) = Some Both
concat_blamed (concat.Wide group channel) = Some Both
concat_blamed problem = None

-- how the making of a file of two ended, and the input that is blamed
abbrev pub joining_end : Result Said Unjoined → Result Said Fault
joining_end (Ok report) = Ok report
joining_end (Err unjoined) = Err unjoined.fault

abbrev pub joining_blamed : Result Said Unjoined → Option Input
joining_blamed (Ok report) = None
joining_blamed (Err unjoined) = unjoined.blamed

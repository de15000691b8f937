-- The command `attach A B OUT`.
use Rattle.std.specs.Prelude.{ℕ, ◌⊎◌, List, Option, Some, None}
use Rattle.mdf_content.specs.declared.fault.ReadFault.{ReadFault}
use Rattle.mdf_disk.specs.State.{DiskState}
use Rattle.mdf_port.specs.State.{SinkState}
use Rattle.mdf_make.specs.declared.said.Said.{Said}
use Rattle.mdf_attach.specs.declared.attachment.Attachment.{Attachment}
use Rattle.mdf_attach.specs.declared.fault.AttachFault.TheVariants as attach
use Rattle.mdf_attach.specs.Stands.{AreAttachments, AreFew}
use Rattle.mdf_attach.specs.Lacks.{LacksAttachments}
use Rattle.tool_concat.specs.Concat.{Joining}
use Rattle.tool_attach.specs.Carry.{Carrying, IsCarrying, IsCarryImage}
use Rattle.tool_attach.specs.declared.fault.CarryFault.{CarryFault}
use Rattle.tool_attach.specs.declared.fault.CarryFault.TheVariants as carry
use Rattle.mdf_command.specs.Attached.{attach_fault}
use Rattle.mdf_command.specs.declared.fault.Fault.{Fault}
use Rattle.mdf_command.specs.declared.fault.Fault.TheVariants as fault
use Rattle.mdf_inspect.specs.Attachments.{AreRefusedWith}
use Rattle.mdf_make.specs.Making.{EndsMaking}
use Rattle.mdf_make.specs.Tool.{WithoutRest}
use Rattle.mdf_make.specs.Concat.{IsRefusedWith, two_inputs}
use Rattle.mdf_make.specs.declared.blamed.Input.{Input}
use Rattle.mdf_make.specs.declared.blamed.Input.TheVariants.{First, Second}

-- of two files the attachments of the first are carried, into the second
abbrev pub carrying_of : Joining → Carrying
carrying_of asked = record { from = asked.first; file = asked.second; now = asked.now }

-- it makes the sorted file of the second with the attachments of the first, at a time in ns
abbrev pub Carries : Joining → List ℕ → Said → Type 0
Carries asked = WithoutRest (IsCarrying (carrying_of asked))

-- what a crash may leave of it
abbrev pub IsAttachImage : Joining → List ℕ → Type 0
IsAttachImage asked = IsCarryImage (carrying_of asked)

-- the fault of the command, of which the first file says whether an attachment or a text is one too many; one of the second file is
-- told as one of the first
abbrev pub fault_of_carry : List ℕ → CarryFault → Fault
fault_of_carry from (carry.From refused) = attach_fault from refused
fault_of_carry from (carry.File refused) = fault.Read refused
fault_of_carry from carry.Failed = fault.Device
fault_of_carry from carry.Memory = fault.Memory

-- the attachments of the first are read, and the second is refused
abbrev pub SecondIsRefused : Joining → ReadFault → Type 0
SecondIsRefused asked refused = ((rows : List Attachment) × AreAttachments asked.first rows × AreFew rows) × IsRefusedWith asked.second refused

-- It refuses files of which the attachments of the first are refused, or else the second is. It wants memory only behind the header
-- of the first.
abbrev pub AreNotCarried : Joining → Fault → Type 0
AreNotCarried asked (fault.Read refused) = AreRefusedWith asked.first (fault.Read refused) ⊎ SecondIsRefused asked refused
AreNotCarried asked (fault.Attached at) = AreRefusedWith asked.first (fault.Attached at)
AreNotCarried asked fault.Memory = LacksAttachments asked.first attach.Memory
AreNotCarried asked _ = ⊥

-- How the command ends, by what the disks of both inputs and of the output and the sink tell before and after.
abbrev pub EndsAttach : ℕ → DiskState → DiskState → DiskState → DiskState → DiskState → DiskState → SinkState → SinkState → ℕ → Type 0
EndsAttach now disk disk' other other' = EndsMaking (two_inputs now disk disk' other other') Carries AreNotCarried

-- of two inputs that were loaded a fault of `attach` is that of the first where its attachments are refused, and of the second where
-- it is
abbrev pub IsOfCarrying : Joining → Option Input → Fault → Type 0
IsOfCarrying asked (Some First) problem = AreRefusedWith asked.first problem
IsOfCarrying asked (Some Second) (fault.Read refused) = IsRefusedWith asked.second refused
IsOfCarrying asked blamed problem = ⊥

abbrev pub carry_blamed : CarryFault → Option Input
carry_blamed (carry.From refused) = Some First
carry_blamed (carry.File refused) = Some Second
carry_blamed problem = None

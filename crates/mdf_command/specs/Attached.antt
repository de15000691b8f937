-- Why the attachments of a file are not read, as it is told.
use Rattle.std.specs.Prelude.{ℕ, Bool, if◌then◌else◌, List}
use Rattle.mdf_format.specs.declared.kind.Kind.TheVariants.{At}
use Rattle.mdf_block.specs.declared.what.What.TheVariants.{Text}
use Rattle.mdf_block.specs.Block.{is_named}
use Rattle.mdf_content.specs.declared.fault.ReadFault.TheVariants as reads
use Rattle.mdf_attach.specs.declared.fault.AttachFault.{AttachFault}
use Rattle.mdf_attach.specs.declared.fault.AttachFault.TheVariants as attach
use Rattle.mdf_command.specs.declared.fault.Fault.{Fault}
use Rattle.mdf_command.specs.declared.fault.Fault.TheVariants as fault

-- the attachment, or else the text, at the address is one too many
abbrev pub many_fault : Bool → ℕ → Fault
many_fault attachment at = if attachment then fault.Attached at else fault.Read (reads.TooMany Text at)

-- Which of both it is, the block at the address says.
abbrev pub attach_fault : List ℕ → AttachFault → Fault
attach_fault file attach.NotMdf = fault.Read reads.NotMdf
attach_fault file (attach.Version ver) = fault.Read (reads.Version ver)
attach_fault file (attach.Unfinalized std custom) = fault.Read (reads.Unfinalized std custom)
attach_fault file (attach.Bad at want) = fault.Read (reads.Block at want)
attach_fault file (attach.TooMany at) = many_fault (is_named file at At) at
attach_fault file attach.Memory = fault.Memory

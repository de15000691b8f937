-- The command `finalize IN OUT`.
use Rattle.std.specs.Prelude.{ℕ, ◌≡◌, List, Some, None, IsSome, Ok, Err}
use Rattle.mdf_block.specs.Refusal.{Fails, Read}
use Rattle.mdf_head.specs.declared.identity.Ident.{Ident}
use Rattle.mdf_content.specs.Fault.{read_refusal}
use Rattle.mdf_disk.specs.State.{DiskState}
use Rattle.mdf_port.specs.State.{SinkState}
use Rattle.mdf_session.specs.Identified.{IsIdentifiedRecording}
use Rattle.mdf_session.specs.Session.{session}
use Rattle.mdf_make.specs.declared.said.Said.{Said}
use Rattle.tool_complete.specs.Completed.{completion}
use Rattle.tool_complete.specs.Flags.{IsUnfinished, unfinished}
use Rattle.tool_complete.specs.Complete.{IsCompleteImage, IsCompleting}
use Rattle.tool_final.specs.Finalize.{IsFinalizeImage, IsFinalizedOf}
use Rattle.mdf_make.specs.Making.{EndsMaking, one_input}
use Rattle.mdf_make.specs.Tool.{WithoutRest}
use Rattle.mdf_command.specs.declared.fault.Fault.{Fault}
use Rattle.mdf_command.specs.declared.fault.Fault.TheVariants as fault

-- What it makes of a file, by what is found of its standard flags: of one that can be mended the sorted file of the completed one, with
-- how much of it was no whole record, and else the finalized session, at a time in ns.
abbrev pub FinalizesBy : ℕ → List ℕ → Read Ident → List ℕ → Said → Type 0
FinalizesBy now file (Ok id) bytes said =
    (rest : ℕ) × (said.rest ≡ Some rest) × IsCompleting file now bytes (record { report = said.report; rest = rest })
FinalizesBy now file (Err refusal) bytes said = WithoutRest (IsFinalizedOf file now) bytes said

abbrev pub Finalizes : ℕ → List ℕ → List ℕ → Said → Type 0
Finalizes now file bytes said = FinalizesBy now file (unfinished file) bytes said

-- It refuses a file for the first fault of its completed file, or else of its session, and wants memory only for one that can be mended,
-- or that is identified as a recording.
abbrev pub RefusesBy : List ℕ → Read Ident → Fault → Type 0
RefusesBy file (Ok id) (fault.Read refused) = IsSome (read_refusal refused) × Fails (read_refusal refused) (completion file)
RefusesBy file (Ok id) fault.Memory = IsUnfinished file
RefusesBy file (Err refusal) (fault.Read refused) = IsSome (read_refusal refused) × Fails (read_refusal refused) (session file)
RefusesBy file (Err refusal) fault.Memory = IsIdentifiedRecording file
RefusesBy file identified _ = ⊥

abbrev pub IsNotFinalized : List ℕ → Fault → Type 0
IsNotFinalized file problem = RefusesBy file (unfinished file) problem

-- what a crash may leave of the output
abbrev pub IsImageBy : List ℕ → ℕ → Read Ident → List ℕ → Type 0
IsImageBy file now (Ok id) image = IsCompleteImage file now image
IsImageBy file now (Err refusal) image = IsFinalizeImage file now image

abbrev pub IsFinalImage : List ℕ → ℕ → List ℕ → Type 0
IsFinalImage file now image = IsImageBy file now (unfinished file) image

-- How the command ends, by what the disks of the input and of the output and the sink tell before and after.
abbrev pub EndsFinalize : ℕ → DiskState → DiskState → DiskState → DiskState → SinkState → SinkState → ℕ → Type 0
EndsFinalize now disk disk' = EndsMaking (one_input disk disk') (Finalizes now) IsNotFinalized

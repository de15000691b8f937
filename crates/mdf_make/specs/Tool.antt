-- What a tool says that makes a file of its input: what it makes of a file, which is bytes and what is told of them, and
-- the faults for which it refuses one.
use Rattle.std.specs.Prelude.{ℕ, ◌≡◌, ◌⊎◌, List, None, Result, Ok, Err}
use Rattle.mdf_format.specs.Cause.{Rose}
use Rattle.mdf_disk.specs.State.{DiskState}
use Rattle.mdf_seal.specs.Seal.{IsKept}
use Rattle.mdf_tool.specs.Tool.{IsSealed}
use Rattle.mdf_tool.specs.declared.made.Report.{Report}
use Rattle.mdf_make.specs.declared.said.Said.{Said}
use Rattle.mdf_command.specs.declared.fault.Fault.{Fault}
use Rattle.mdf_command.specs.declared.fault.Fault.TheVariants as fault

-- what is made, and told with no rest
abbrev pub WithoutRest : (List ℕ → Report → Type 0) → List ℕ → Said → Type 0
WithoutRest Makes bytes said = (said.rest ≡ None) × Makes bytes said.report

-- what a crash may leave of the output: a file under its seal, or what the tool makes
abbrev pub IsImage : (List ℕ → Said → Type 0) → List ℕ → Type 0
IsImage Makes image = IsSealed image ⊎ ((report : Said) × Makes image report)

-- How it ends, by what the disk of the output tells before and after: what it makes is kept whole; or the disk failed; or
-- the file is refused, or memory was wanted for it, and the disk is as before. It finds no file too long, since it loads none.
abbrev pub ToolEnds : (List ℕ → Said → Type 0) → (Fault → Type 0) → DiskState → DiskState → Result Said Fault → Type 0
ToolEnds Makes Refuses old new (Ok report) = (bytes : List ℕ) × Makes bytes report × IsKept new.content new.story bytes
ToolEnds Makes Refuses old new (Err fault.Device) = Rose old.faults new.faults
ToolEnds Makes Refuses old new (Err (fault.InputOver size limit)) = ⊥
ToolEnds Makes Refuses old new (Err problem) = Refuses problem × (new ≡ old)

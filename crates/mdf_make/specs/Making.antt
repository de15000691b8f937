-- A command that makes a file of another one.
use Rattle.std.specs.Prelude.{ℕ, ◌≡◌, ◌⊎◌, List, [], ◌∷◌, ◌++◌, codes, true, Option, Some, None, Result, Ok, Err}
use Rattle.std.specs.Fmt.{decimal}
use Rattle.mdf_format.specs.Cause.{Rose}
use Rattle.mdf_disk.specs.Crash.{HoldsSince}
use Rattle.mdf_disk.specs.State.{DiskState}
use Rattle.mdf_port.specs.State.{SinkState}
use Rattle.mdf_seal.specs.Seal.{IsKept}
use Rattle.mdf_tool.specs.declared.made.Report.{Report}
use Rattle.mdf_make.specs.declared.said.Said.{Said}
use Rattle.mdf_command.specs.Texts.{line, Prints}
use Rattle.mdf_command.specs.Faults.{end_status, fault_line}
use Rattle.mdf_command.specs.Load.{IsCalm, IsLoaded, IsOver, LoadWants}
use Rattle.mdf_command.specs.declared.fault.Fault.{Fault}
use Rattle.mdf_command.specs.declared.fault.Fault.TheVariants as fault

-- the line on the file that was made
abbrev pub report_line : Report → List ℕ
report_line report = line (codes "groups " ∷ decimal report.groups ∷ codes " samples " ∷ decimal report.samples ∷ codes " dropped " ∷ decimal report.dropped ∷ [])

-- the line on the rest of a file that was completed, and nothing of any other
abbrev pub rest_line : Option ℕ → List ℕ
rest_line None = []
rest_line (Some rest) = line (codes "rest " ∷ decimal rest ∷ [])

-- both
abbrev pub said_lines : Said → List ℕ
said_lines said = report_line said.report ++ rest_line said.rest

-- since then a crash leaves nothing of the output
abbrev pub MakesNothing : DiskState → DiskState → Type 0
MakesNothing out out' = HoldsSince out'.story out.moment (λ image. image ≡ [])

-- of inputs that were loaded a crash leaves only such images; or nothing
abbrev pub LeavesOf : {Input : Type 0} → (Input → Type 0) → (Input → List ℕ → Type 0) → DiskState → DiskState → Type 0
LeavesOf {Input = Input} AreLoaded IsImage out out' =
    MakesNothing out out' ⊎ ((input : Input) × AreLoaded input × HoldsSince out'.story out.moment (IsImage input))

-- what a tool makes is kept whole on the disk of the output
pub record IsMade (Makes : List ℕ → Said → Type 0) (out' : DiskState) (report : Said) : Type 0 where
  pub bytes : List ℕ
  pub is_of : Makes bytes report
  pub kept : IsKept out'.content out'.story bytes

-- memory was wanted before the disk of the output was asked for anything; or over the empty file that was created on it, by a disk
-- that did not fail, for an input of which this is known
abbrev pub MakesAtMostEmpty : Type 0 → DiskState → DiskState → Type 0
MakesAtMostEmpty Known out out' = (out' ≡ out) ⊎ ((out'.attached ≡ true) × IsCalm out out' × Known)

-- It was made, or not, only where this holds of the disk of the output before and after. The output is made before the tool
-- looks at its input; so a refusal of the input stands for no name that is taken.
abbrev pub MakeComes : (List ℕ → Said → Type 0) → (Fault → Type 0) → DiskState → DiskState → Result Said Fault → Type 0
MakeComes Makes Refuses out out' (Ok report) = IsMade Makes out' report
MakeComes Makes Refuses out out' (Err fault.Device) = Rose out.faults out'.faults
MakeComes Makes Refuses out out' (Err fault.Memory) = MakesNothing out out' × MakesAtMostEmpty (Refuses fault.Memory) out out'
MakeComes Makes Refuses out out' (Err (fault.InputOver size limit)) = ⊥
MakeComes Makes Refuses out out' (Err problem) = Refuses problem × MakesNothing out out' × (out'.attached ≡ true)

-- What the disks of the inputs tell before and after: what was loaded of them, that one of them failed, that none did, that the
-- file of one has more bytes than an input may have, and what is known where memory was wanted before all was loaded.
pub record Inputs (Input : Type 0) : Type 1 where
  pub AreLoaded : Input → Type 0
  pub Failed : Type 0
  pub AreCalm : Type 0
  pub IsOver : ℕ → ℕ → Type 0
  pub Wanted : Type 0

-- one input, of which its bytes are loaded
abbrev pub one_input : DiskState → DiskState → Inputs (List ℕ)
one_input old new = record {
  AreLoaded = IsLoaded old;
  Failed = Rose old.faults new.faults;
  AreCalm = IsCalm old new;
  IsOver = IsOver old;
  Wanted = LoadWants old new;
}

-- The command ends so only where this holds of the disks of the inputs and of the output before and after: what the tool
-- makes of the input is kept whole; or a disk failed; or a crash leaves nothing of the output, since an input is too long
-- or refused, or memory was wanted. Where an input could not be read whole, the disk of the output was asked for nothing,
-- and want of memory does not stand for a fault of any disk. Where one is refused, the empty output was made before.
abbrev pub MakingComes : {Input : Type 0} → Inputs Input → (Input → List ℕ → Said → Type 0) → (Input → Fault → Type 0) → DiskState → DiskState → Result Said Fault → Type 0
MakingComes {Input = Input} inputs Makes Refuses out out' (Ok report) = (input : Input) × inputs.AreLoaded input × IsMade (Makes input) out' report
MakingComes inputs Makes Refuses out out' (Err fault.Device) = (inputs.Failed × (out' ≡ out)) ⊎ Rose out.faults out'.faults
MakingComes inputs Makes Refuses out out' (Err (fault.InputOver size limit)) = inputs.IsOver size limit × MakesNothing out out' × (out' ≡ out)
MakingComes {Input = Input} inputs Makes Refuses out out' (Err fault.Memory) =
    MakesNothing out out'
    × ((inputs.Wanted × (out' ≡ out)) ⊎ (inputs.AreCalm × ((input : Input) × inputs.AreLoaded input × MakesAtMostEmpty (Refuses input fault.Memory) out out')))
MakingComes {Input = Input} inputs Makes Refuses out out' (Err problem) =
    ((input : Input) × inputs.AreLoaded input × Refuses input problem) × MakesNothing out out' × (out'.attached ≡ true)

abbrev pub making_text : Result Said Fault → List ℕ
making_text (Ok said) = said_lines said
making_text (Err fault) = fault_line fault

-- How the command ends, by what the disks of the inputs and of the output and the sink tell before and after.
abbrev pub EndsMaking : {Input : Type 0} → Inputs Input → (Input → List ℕ → Said → Type 0) → (Input → Fault → Type 0) → DiskState → DiskState → SinkState → SinkState → ℕ → Type 0
EndsMaking inputs Makes Refuses out out' sink sink' status =
    (end : Result Said Fault) × MakingComes inputs Makes Refuses out out' end × Prints (making_text end) (end_status end) sink sink' status

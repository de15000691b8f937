-- Which input is blamed where no file is made of two.
use Rattle.std.proofs.Common.{ℕ, List, Option, Some, None, Result, Ok, Err, refl}
use Rattle.std.specs.Prelude.{IfErr}
use Rattle.mdf_disk.specs.State.{DiskState}
use Rattle.mdf_make.specs.declared.said.Said.{Said}
use Rattle.tool_concat.specs.Concat.{ConcatEnds, Joining}
use Rattle.tool_concat.specs.declared.fault.ConcatFault.{ConcatFault}
use Rattle.tool_concat.specs.declared.fault.ConcatFault.TheVariants as concat
use Rattle.tool_attach.specs.Carry.{CarryEnds}
use Rattle.tool_attach.specs.declared.fault.CarryFault.{CarryFault}
use Rattle.tool_attach.specs.declared.fault.CarryFault.TheVariants as carry
use Rattle.mdf_command.specs.declared.fault.Fault.{Fault}
use Rattle.mdf_command.specs.declared.fault.Fault.TheVariants as fault
use Rattle.mdf_make.specs.Attach.{IsOfCarrying, carry_blamed, carrying_of, fault_of_carry}
use Rattle.mdf_make.specs.Blamed.{IsOf, IsOfEnd, IsOfJoining, IsOfLoaded, concat_blamed, joining_blamed, joining_end}
use Rattle.mdf_make.specs.Concat.{AreBothLoaded, fault_of_concat}
use Rattle.mdf_make.specs.Making.{MakeComes}
use Rattle.mdf_make.specs.declared.blamed.Input.{Input}
use Rattle.mdf_make.specs.declared.blamed.Input.TheVariants.{First, Second}
use Rattle.mdf_make.specs.declared.joining.Unjoined.{Unjoined}

-- of two inputs that were loaded
pub concat_is_of : (asked : Joining) (old new : DiskState) (problem : ConcatFault) → ConcatEnds asked old new (Err problem)
    → IsOfLoaded IsOfJoining asked (concat_blamed problem) (fault_of_concat problem)
concat_is_of asked old new (concat.First refused) ends = (ends.0, ends.1)
concat_is_of asked old new (concat.Second refused) ends = (ends.1, ends.2)
concat_is_of asked old new (concat.Differs group) ends = ends.0
concat_is_of asked old new (concat.Wide group channel) ends = ends.0
concat_is_of asked old new concat.Failed ends = tt
concat_is_of asked old new concat.Memory ends = tt

pub carry_is_of : (asked : Joining) (old new : DiskState) (problem : CarryFault) → CarryEnds (carrying_of asked) old new (Err problem)
    → IsOfLoaded IsOfCarrying asked (carry_blamed problem) (fault_of_carry asked.first problem)
carry_is_of asked old new (carry.From refused) ends = (refused, ends.0, refl)
carry_is_of asked old new (carry.File refused) ends = (ends.1, ends.2)
carry_is_of asked old new carry.Failed ends = tt
carry_is_of asked old new carry.Memory ends = tt

module _ (Makes : List ℕ → Said → Type 0) (Refuses : Fault → Type 0) (Blames : Joining → Option Input → Fault → Type 0) (out out' : DiskState)
    (now : ℕ) (disk other : DiskState) (asked : Joining) (loaded : AreBothLoaded now disk other asked) where
  loaded_is_of : (blamed : Option Input) (problem : Fault) → MakeComes Makes Refuses out out' (Err problem) → IsOfLoaded Blames asked blamed problem
      → IsOf Blames now disk other blamed problem
  loaded_is_of None fault.Device comes is = tt
  loaded_is_of None fault.Memory comes is = tt
  loaded_is_of (Some First) (fault.InputOver size limit) comes is = absurd comes
  loaded_is_of (Some Second) (fault.InputOver size limit) comes is = absurd comes
  loaded_is_of blamed problem comes is = (asked, loaded, is)

  -- of two that are loaded that one is blamed that the fault is of
  pub joined_is_of : (joined : Result Said Unjoined) → MakeComes Makes Refuses out out' (joining_end joined)
      → IfErr joined (λ unjoined. IsOfLoaded Blames asked unjoined.blamed unjoined.fault)
      → IsOfEnd Blames now disk other (joining_blamed joined) (joining_end joined)
  joined_is_of (Ok report) comes is = refl
  joined_is_of (Err unjoined) comes is = loaded_is_of unjoined.blamed unjoined.fault comes is

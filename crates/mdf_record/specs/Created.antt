-- What is left of a disk over which the file of a recording was to be created.
use Rattle.std.specs.Prelude.{ℕ, ◌≡◌, ◌≤◌, List, [], Some, None, is_some, IfSome}
use Rattle.mdf_disk.specs.State.{state_of}
use Rattle.mdf_disk.specs.Crash.{HoldsSince}
use Rattle.mdf_disk.specs.declared.role.Role.TheVariants.{Create}
use Rattle.mdf_format.specs.declared.form.Form.{Form}
use Rattle.mdf_group.specs.declared.row.GroupRow.{GroupRow}
use Rattle.mdf_spell.specs.Recording.{head_file}
use Rattle.mdf_gate.specs.Gated.{Gated}
use Rattle.mdf_gate.specs.Images.{IsBegun, head_of}
use Rattle.mdf_carried.specs.Recovers.{IsReadHead}
use Rattle.book_owned.specs.Begun.{IsNewFile}
use Rattle.book_owned.specs.Members.{DiskOf}
use Rattle.mdf_command.specs.declared.fault.Fault.{Fault}
use Rattle.mdf_record.specs.Finish.{IsMade, IsUnmade}
use Rattle.mdf_record.specs.Recovers.{StartRecovers}

-- the file was created under this name, with the head of a recording of these groups
pub record IsCreated {C : Type 0} (tells : DiskOf C) (name : List ℕ) (form : Form) (now : ℕ) (rows : List GroupRow) (out : C) (file : Gated C) : Type 0 where
  pub created : IsNewFile tells file
  pub head : IfSome (tells.story file.disk) (λ _. head_of (tells.story file.disk) file.first ≡ head_file form now rows)
  pub asked : tells.asked file.disk ≡ Some (name, Create)
  pub made : IsMade (head_file form now rows) (state_of tells file.disk)
  pub begun : HoldsSince (tells.story file.disk) (tells.moment out) (IsBegun (head_file form now rows))
  pub told : is_some (tells.story file.disk) ≡ is_some (tells.story out)
  pub start : IfSome (tells.story out) (λ _. file.start ≡ tells.moment out)
  pub faults : tells.faults out ≤ file.faults
  pub readable : IsReadHead form now rows

-- it was not, and this is what is left of the disk, and why
pub record IsNotCreated {C : Type 0} (tells : DiskOf C) (name head : List ℕ) (out left : C) (fault : Fault) : Type 0 where
  pub unmade : IsUnmade name head (state_of tells out) (state_of tells left) fault
  pub untouched : tells.asked left ≡ None → left ≡ out
  pub recovers : StartRecovers (tells.story left) (tells.moment out) []

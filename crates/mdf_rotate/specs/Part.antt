-- What a rotation leaves on each of its disks.
use Rattle.std.specs.Prelude.{ℕ, suc, ◌≡◌, ◌⊎◌, List, [], ◌∷◌, map, Ok, Err}
use Rattle.mdf_disk.specs.Crash.{HoldsSince}
use Rattle.mdf_disk.specs.State.{DiskState, state_of}
use Rattle.mdf_gate.specs.Images.{IsBegun}
use Rattle.book_owned.specs.Members.{DiskOf}
use Rattle.acq_script.specs.Stage.{IsScript}
use Rattle.acq_script.specs.declared.script.Script.{Script}
use Rattle.book_rotate.specs.Part.{IsPart}
use Rattle.mdf_command.specs.declared.fault.Fault.TheVariants as fault
use Rattle.mdf_record.specs.Record.{Outcome, outcome}
use Rattle.mdf_record.specs.Recorded.{RecordComes}
use Rattle.mdf_record.specs.declared.record.RecordEnd.{RecordEnd}
use Rattle.mdf_rotate.specs.Course.{Course, course_behind}
use Rattle.mdf_rotate.specs.Words.{part_name}
use Rattle.mdf_rotate.specs.declared.course.RotateEnd.TheVariants.{Faulted}
use Rattle.mdf_rotate.specs.declared.part.Part.{Part}

-- what is left of each disk, as that tells it
abbrev pub outcomes : {C : Type 0} → DiskOf C → List (Part C) → List Outcome
outcomes tells parts = map (λ part. outcome tells part.out part.history.items part.marks.items) parts

-- so of disks that nothing was recorded on
abbrev pub states : {C : Type 0} → DiskOf C → List C → List DiskState
states tells disks = map (state_of tells) disks

-- The disk is as before, nothing was recorded, and since the start a crash leaves no MDF file, whatever head it has.
pub record IsUnused (disk : DiskState) (left : Outcome) : Type 0 where
  pub same : left.disk ≡ disk
  pub history : left.history ≡ []
  pub marks : left.marks ≡ []
  pub begun : (head : List ℕ) → HoldsSince left.disk.story disk.moment (IsBegun head)

-- A part was cut off the script and recorded under its name, as `record` does, and the rotation goes on by how that ended.
pub record IsRecordedPart (output : List ℕ) (now number : ℕ) (disk : DiskState) (left : Outcome) (script : Script) (next : Course) : Type 0 where
  pub part : Script
  pub rest : Script
  pub is_part : IsPart script part rest
  pub is_script : IsScript part
  pub end : RecordEnd
  pub comes : RecordComes (λ said. said ≡ part) (λ problem. ⊥) (part_name output number) now disk left end
  pub next_is : next ≡ course_behind end rest

-- What comes of the next disk: nothing where the rotation has ended, or where memory was wanted for the part; else its part.
abbrev pub PartComes : List ℕ → ℕ → ℕ → DiskState → Outcome → Course → Course → Type 0
PartComes output now number disk left (Err end) next = IsUnused disk left × (next ≡ Err end)
PartComes output now number disk left (Ok script) next =
    (IsUnused disk left × (next ≡ Err (Faulted fault.Memory))) ⊎ IsRecordedPart output now number disk left script next

-- and of all disks, in order, from this number on
abbrev pub PartsCome : List ℕ → ℕ → ℕ → List DiskState → List Outcome → Course → Course → Type 0
PartsCome output now number [] [] course last = last ≡ course
PartsCome output now number (disk ∷ disks) (left ∷ lefts) course last =
    (next : Course) × PartComes output now number disk left course next × PartsCome output now (suc number) disks lefts next last
PartsCome output now number _ _ course last = ⊥

-- How the parts of `concat` end: the reading of both files, the joining of their measurements, and the making of the file.
use Rattle.std.specs.Prelude.{ℕ, ◌≡◌, false, List, length, Result, Ok, Err, IsSome, codes}
use Rattle.mdf_block.specs.Refusal.{Fails}
use Rattle.mdf_content.specs.Fault.{read_refusal}
use Rattle.mdf_content.specs.Layouts.{layout_of}
use Rattle.mdf_group.specs.Group.{is_variable}
use Rattle.mdf_model.specs.declared.part.Measure.{Measure}
use Rattle.mdf_model.specs.Identified.{IsIdentified}
use Rattle.mdf_model.specs.Measurement.{HasSamples, Measured, measurement}
use Rattle.tool_sort.specs.Kept.{IsSortedOf, StandsIn}
use Rattle.tool_sort.specs.Made.{report_for}
use Rattle.tool_sort.specs.Sorted.{sorted_file}
use Rattle.mdf_disk.specs.State.{DiskState}
use Rattle.mdf_tool.specs.declared.fault.ToolFault.{ToolFault}
use Rattle.mdf_tool.specs.declared.fault.ToolFault.TheVariants as tool
use Rattle.mdf_tool.specs.declared.made.Made.{Made}
use Rattle.tool_concat.specs.declared.fault.ConcatFault.{ConcatFault}
use Rattle.tool_concat.specs.declared.fault.ConcatFault.TheVariants as faults
use Rattle.tool_concat.specs.Concat.{ConcatEnds, IsConcatOf, Joining, dropped_of}
use Rattle.tool_concat.specs.Difference.{AreAlike, IsFirstDifference}
use Rattle.tool_concat.specs.Joined.{IsJoined}
use Rattle.tool_concat.specs.Wide.{IsFirstWide, NoneWideTo}

-- the first file is read, or refused for its first fault; memory is wanted only for one that is identified
abbrev pub FirstRead : List ℕ → Result Measured ConcatFault → Type 0
FirstRead file (Ok found) = measurement file ≡ Ok found
FirstRead file (Err (faults.First fault)) = IsSome (read_refusal fault) × Fails (read_refusal fault) (measurement file)
FirstRead file (Err faults.Memory) = IsIdentified file
FirstRead file (Err _) = ⊥

-- and so the second
abbrev pub SecondRead : List ℕ → Result Measured ConcatFault → Type 0
SecondRead file (Ok found) = measurement file ≡ Ok found
SecondRead file (Err (faults.Second fault)) = IsSome (read_refusal fault) × Fails (read_refusal fault) (measurement file)
SecondRead file (Err faults.Memory) = Unit {0}
SecondRead file (Err _) = ⊥

-- the records of a group are samples by the layout of its channels
pub record IsLaid (m : Measure) : Type 0 where
  pub samples : HasSamples m
  pub shape : m.shape ≡ layout_of m.part.row
  pub own : is_variable m.part.row ≡ false

-- the groups are the same, and each moved offset is held
pub record CanJoin (one other : Measured) : Type 0 where
  pub alike : AreAlike one.groups other.groups
  pub held : NoneWideTo one.groups other.groups (length one.groups)

-- why they are not: a group differs, or an offset is not held; or they can be, and memory was wanted
abbrev pub IsRefused : Measured → Measured → ConcatFault → Type 0
IsRefused one other (faults.Differs group) = IsFirstDifference one.groups other.groups group
IsRefused one other (faults.Wide group channel) = AreAlike one.groups other.groups × IsFirstWide one.groups other.groups group channel
IsRefused one other faults.Memory = CanJoin one other
IsRefused one other _ = ⊥

-- the sorted file of the joined measurement, and what is told of it
pub record IsMadeFrom (one other : Measured) (now : ℕ) (made : Made) : Type 0 where
  pub can : CanJoin one other
  pub joined : Measured
  pub is_joined : IsJoined one other joined
  pub bytes_are : made.bytes ≡ sorted_file joined (codes "concat") now
  pub keeps : (file : List ℕ) → StandsIn file one → IsSortedOf joined (codes "concat") now made.bytes
  pub report_is : made.report ≡ record (report_for joined) { dropped = dropped_of one other }

-- what is to be written: the joined file, and what is told of it
abbrev pub IsMadeOf : Joining → Made → Type 0
IsMadeOf asked made = IsConcatOf asked made.bytes made.report

-- the fault with which it ends before the disk of the output is touched
abbrev pub IsRefusal : Joining → ConcatFault → Type 0
IsRefusal asked fault = (state : DiskState) → ConcatEnds asked state state (Err fault)

-- the fault where that was not written
abbrev pub unwritten : ToolFault → ConcatFault
unwritten tool.Failed = faults.Failed
unwritten _ = faults.Memory

-- How `concat` ends, and what a crash inside it leaves.
use Rattle.std.specs.Prelude.{ℕ, ◌≡◌, ◌⊎◌, ◌+◌, ◌-◌, ◌^◌, min, List, length, Result, Ok, Err, IsSome, codes}
use Rattle.mdf_format.specs.Cause.{Rose}
use Rattle.mdf_block.specs.Refusal.{Fails}
use Rattle.mdf_content.specs.Fault.{read_refusal}
use Rattle.mdf_disk.specs.State.{DiskState}
use Rattle.mdf_model.specs.Identified.{IsIdentified}
use Rattle.mdf_model.specs.Measurement.{Measured, measurement}
use Rattle.mdf_seal.specs.Seal.{IsKept}
use Rattle.tool_sort.specs.Kept.{IsSortedOf}
use Rattle.tool_sort.specs.Made.{report_for}
use Rattle.tool_sort.specs.Sorted.{sorted_file}
use Rattle.mdf_tool.specs.Tool.{IsSealed}
use Rattle.mdf_tool.specs.declared.made.Report.{Report}
use Rattle.tool_concat.specs.declared.fault.ConcatFault.{ConcatFault}
use Rattle.tool_concat.specs.declared.fault.ConcatFault.TheVariants as faults
use Rattle.tool_concat.specs.Difference.{AreAlike, IsFirstDifference}
use Rattle.tool_concat.specs.Joined.{IsJoined}
use Rattle.tool_concat.specs.Wide.{IsFirstWide, NoneWideTo}

-- what is joined: the bytes of two files, and the time in ns
pub record Joining : Type 0 where
  pub first : List ℕ
  pub second : List ℕ
  pub now : ℕ

-- the measurements of both files
pub record AreRead (asked : Joining) : Type 0 where
  pub one : Measured
  pub other : Measured
  pub first : measurement asked.first ≡ Ok one
  pub second : measurement asked.second ≡ Ok other

-- how many links of both were passed over; the count stays at the last u64
abbrev pub dropped_of : Measured → Measured → ℕ
dropped_of one other = min (one.dropped + other.dropped) (2 ^ 64 - 1)

-- Groups of both files are the same and every moved offset is held. These bytes are the sorted file of their joined
-- measurement, and this is told of it. They are a valid file whose measurement has the same header, channel groups, records and
-- streams, and one entry more in its history.
pub record IsConcatOf (asked : Joining) (bytes : List ℕ) (report : Report) : Type 0 where
  pub read : AreRead asked
  pub alike : AreAlike read.one.groups read.other.groups
  pub held : NoneWideTo read.one.groups read.other.groups (length read.one.groups)
  pub joined : Measured
  pub is_joined : IsJoined read.one read.other joined
  pub bytes_are : bytes ≡ sorted_file joined (codes "concat") asked.now
  pub keeps : IsSortedOf joined (codes "concat") asked.now bytes
  pub report_is : report ≡ record (report_for joined) { dropped = dropped_of read.one read.other }

-- a group of both files differs, and this is the first one
pub record Differs (asked : Joining) (group : ℕ) : Type 0 where
  pub read : AreRead asked
  pub first : IsFirstDifference read.one.groups read.other.groups group

-- none differs, but an offset is not held, and this is the first group and its first channel with one
pub record TooWide (asked : Joining) (group channel : ℕ) : Type 0 where
  pub read : AreRead asked
  pub alike : AreAlike read.one.groups read.other.groups
  pub first : IsFirstWide read.one.groups read.other.groups group channel

-- How it ends, by what the disk of the output tells before and after: that file is kept whole; or the first file is refused for
-- its first fault, or else the second, or their groups differ, or an offset is not held, or the first file is identified and memory
-- was wanted, and the disk is as before; or the disk failed.
abbrev pub ConcatEnds : Joining → DiskState → DiskState → Result Report ConcatFault → Type 0
ConcatEnds asked old new (Ok report) = (bytes : List ℕ) × IsConcatOf asked bytes report × IsKept new.content new.story bytes
ConcatEnds asked old new (Err (faults.First fault)) = IsSome (read_refusal fault) × Fails (read_refusal fault) (measurement asked.first) × (new ≡ old)
ConcatEnds asked old new (Err (faults.Second fault)) = ((one : Measured) × (measurement asked.first ≡ Ok one))
    × IsSome (read_refusal fault) × Fails (read_refusal fault) (measurement asked.second) × (new ≡ old)
ConcatEnds asked old new (Err (faults.Differs group)) = Differs asked group × (new ≡ old)
ConcatEnds asked old new (Err (faults.Wide group channel)) = TooWide asked group channel × (new ≡ old)
ConcatEnds asked old new (Err faults.Failed) = Rose old.faults new.faults
ConcatEnds asked old new (Err faults.Memory) = IsIdentified asked.first × (new ≡ old)

-- what a crash may leave: a file under its seal, or that file
abbrev pub IsConcatImage : Joining → List ℕ → Type 0
IsConcatImage asked image = IsSealed image ⊎ ((report : Report) × IsConcatOf asked image report)

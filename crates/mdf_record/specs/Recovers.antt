-- What is recovered of the files that a crash may leave of a recording.
use Rattle.std.specs.Prelude.{ℕ, ◌≤◌, ◌⊎◌, List, length, All, Option}
use Rattle.mdf_disk.specs.Story.{Story}
use Rattle.mdf_disk.specs.Crash.{HoldsSince}
use Rattle.mdf_layout.specs.declared.sample.Sample.{Sample}
use Rattle.mdf_gate.specs.Images.{IsNotMdf}
use Rattle.book_owned.specs.declared.mark.Mark.{Mark}
use Rattle.mdf_carried.specs.Recovers.{IsReadable, Recovers, IsNoneOrRecovers}
use Rattle.mdf_command.specs.Faults.{INPUT_LIMIT}
use Rattle.mdf_record.specs.Record.{Outcome}

-- the file is finalized where it is the input of a command: it is read as a recording, and no longer than an input may be
pub record IsFinalizable (file : List ℕ) : Type 0 where
  pub readable : IsReadable file
  pub short : length file ≤ INPUT_LIMIT

-- no tool takes the file for MDF, or it is finalized
abbrev pub IsNoneOrFinalizable : List ℕ → Type 0
IsNoneOrFinalizable file = IsNotMdf file ⊎ IsFinalizable file

-- Each crash since the mark's moment leaves a file that is finalized, and of which a beginning of the history is recovered
-- with at least so many samples as the mark has.
pub record MarkRecovers (story : Option Story) (clock : ℕ) (history : List Sample) (mark : Mark) : Type 0 where
  pub past : mark.moment ≤ clock
  pub within : mark.through ≤ length history
  pub recovers : HoldsSince story mark.moment (Recovers history mark.through)
  pub finalizable : HoldsSince story mark.moment IsFinalizable

-- of each mark
abbrev pub MarksRecover : Option Story → ℕ → List Sample → List Mark → Type 0
MarksRecover story clock history marks = All (MarkRecovers story clock history) marks

-- Each crash since the file was begun leaves no MDF file, or one that is finalized and of which a beginning of the history
-- is recovered.
pub record StartRecovers (story : Option Story) (start : ℕ) (history : List Sample) : Type 0 where
  pub recovers : HoldsSince story start (IsNoneOrRecovers history)
  pub finalizable : HoldsSince story start IsNoneOrFinalizable

-- What a recording that was begun at this moment leaves.
pub record AreRecovered (start : ℕ) (left : Outcome) : Type 0 where
  pub marks_recover : MarksRecover left.disk.story left.disk.moment left.history left.marks
  pub start_recovers : StartRecovers left.disk.story start left.history

-- How a recording is begun and finished.
use Rattle.std.specs.Prelude.{ℕ, ◌≡◌, ◌≤◌, ◌<◌, ◌⊎◌, Bool, true, false, List, [], ◌∷◌, ◌++◌, length, take, Option, Some, None, Result, Err, IfSome, IsOk}
use Rattle.mdf_format.specs.Cause.{Rose}
use Rattle.mdf_disk.specs.State.{DiskState}
use Rattle.mdf_disk.specs.Crash.{HoldsSince}
use Rattle.mdf_layout.specs.declared.sample.Sample.{Sample}
use Rattle.book_view.specs.Known.{Note}
use Rattle.acq_run.specs.Audience.{count_in, tells_of}
use Rattle.acq_run.specs.declared.audience.Audience.{Audience}
use Rattle.mdf_disk.specs.declared.role.Role.TheVariants.{Create}
use Rattle.mdf_gate.specs.Images.{IsBegun}
use Rattle.book_owned.specs.Marks.{durable}
use Rattle.book_owned.specs.Account.{Account, Steps}
use Rattle.book_owned.specs.declared.mark.Mark.{Mark}
use Rattle.mdf_record.specs.declared.sources.End.{End}
use Rattle.mdf_record.specs.declared.sources.End.TheVariants as end_
use Rattle.mdf_command.specs.declared.fault.Fault.{Fault}
use Rattle.mdf_command.specs.declared.fault.Fault.TheVariants as fault

-- the file was made, and has the head alone, behind which the gate of its first place is closed
pub record IsMade (head : List ℕ) (disk : DiskState) : Type 0 where
  pub attached : disk.attached ≡ true
  pub content : IfSome disk.content (λ file. file ≡ head ++ 0 ∷ [])

-- The file with this head could not be made, or the book not be begun: the disk failed, or memory was wanted before the disk
-- was asked for anything or when the file was made.
abbrev pub FileFaultComes : List ℕ → DiskState → DiskState → Fault → Type 0
FileFaultComes head old new fault.Device = Rose old.faults new.faults
FileFaultComes head old new fault.Memory = (new ≡ old) ⊎ IsMade head new
FileFaultComes head old new _ = ⊥

-- no file was made: what the disk was asked for, what a crash since may leave, and why
pub record IsUnmade (name head : List ℕ) (old new : DiskState) (fault : Fault) : Type 0 where
  pub asked_is : (new.asked ≡ None) ⊎ (new.asked ≡ Some (name, Create))
  pub begun : HoldsSince new.story old.moment (IsBegun head)
  pub comes : FileFaultComes head old new fault

-- a last flush made no mark, or one through all samples
abbrev pub MarksLast : {D : Type 0} → Account D Audience → Account D Audience → Type 0
MarksLast old new = (new.marks ≡ old.marks) ⊎ ((mark : Mark) × (new.marks ≡ old.marks ++ mark ∷ []) × (mark.through ≡ length old.history))

-- all samples are durable
abbrev pub IsAllDurable : {D V : Type 0} → Account D V → Type 0
IsAllDurable book = (book.stopped ≡ false) × (durable book.marks ≡ length book.history)

-- all tasks were done, and who looks live is shown fewer samples than there are
abbrev pub WantsToShow : {D : Type 0} → Account D Audience → Bool → Result Unit End → Type 0
WantsToShow book live driven = IsOk driven × (live ≡ true) × (count_in book.view < length book.history)

-- What the last flush says, and what the tasks ended with: a fault of the disk before a full session, and that before want
-- of memory, be it for a sample or for a view that is looked at live. All is durable but where the disk failed.
abbrev pub FinishEnds : {D : Type 0} → Account D Audience → Bool → Result Unit End → Option Fault → Type 0
FinishEnds book live driven None = IsOk driven × IsAllDurable book
FinishEnds book live driven (Some fault.Device) = book.stopped ≡ true
FinishEnds book live driven (Some (fault.SessionFull held size limit)) = (driven ≡ Err (end_.SessionFull held size limit)) × IsAllDurable book
FinishEnds book live driven (Some fault.Memory) = ((driven ≡ Err end_.Memory) ⊎ WantsToShow book live driven) × IsAllDurable book
FinishEnds book live driven (Some _) = ⊥

-- What went wrong by what the tasks ended with, where the disk did not fail: memory was also wanted where all was done, but
-- fewer samples are shown live than were marked.
abbrev pub ProblemComes : Result Unit End → Bool → ℕ → ℕ → Option Fault → Type 0
ProblemComes driven live shown through None = IsOk driven × (live ≡ true → through ≤ shown)
ProblemComes driven live shown through (Some fault.Device) = driven ≡ Err end_.Stopped
ProblemComes driven live shown through (Some (fault.SessionFull held size limit)) = driven ≡ Err (end_.SessionFull held size limit)
ProblemComes driven live shown through (Some fault.Memory) = (driven ≡ Err end_.Memory) ⊎ (IsOk driven × (live ≡ true) × (shown < through))
ProblemComes driven live shown through (Some _) = ⊥

-- Where nothing went wrong, the note of the last flush tells of what is shown: live, that is all of the history.
abbrev pub NoteComes : Option Fault → Bool → ℕ → List Sample → Option Note → Type 0
NoteComes None live which history note =
    (shown : ℕ) × tells_of note which (take shown history) × (live ≡ true → length history ≤ shown)
NoteComes (Some fault) live which history note = note ≡ None

pub record Finishes {D : Type 0} (old new : Account D Audience) (live : Bool) (driven : Result Unit End) (fault : Option Fault) (note : Option Note) : Type 0 where
  pub steps : Steps old new []
  pub ends : FinishEnds new live driven fault
  pub noted : NoteComes fault live new.terms.which new.history note

-- How a run ends, by the kind of what the words ask for.
use Rattle.std.specs.Prelude.{ℕ, ◌≡◌, ◌≢◌, List, [], Option, Some, None, Ok}
use Rattle.mdf_format.specs.Cause.{Rose}
use Rattle.mdf_port.specs.State.{SinkState, SourceState}
use Rattle.mdf_disk.specs.State.{DiskState}
use Rattle.acq_script.specs.Script.{script_of}
use Rattle.acq_script.specs.declared.script.Script.{Script}
use Rattle.acq_script.specs.Generated.{generated_script}
use Rattle.tool_sort.specs.Sort.{IsSortImage}
use Rattle.tool_cut.specs.Cut.{IsCutImage}
use Rattle.tool_concat.specs.Concat.{IsConcatImage}
use Rattle.mdf_command.specs.Load.{IsLoaded}
use Rattle.mdf_command.specs.Texts.{Prints, usage_line}
use Rattle.mdf_command.specs.Words.{Request, shown, made, joined, recorded}
use Rattle.mdf_command.specs.declared.command.Aspect.{Aspect}
use Rattle.mdf_command.specs.declared.command.Aspect.TheVariants.{Opened, Verdict, Contents, Table, Attachments}
use Rattle.mdf_command.specs.declared.command.Product.{Product}
use Rattle.mdf_command.specs.declared.command.Product.TheVariants.{Finalized, Sorted, Cut}
use Rattle.mdf_command.specs.declared.command.Union.{Union}
use Rattle.mdf_command.specs.declared.command.Union.TheVariants.{Concat, Attach}
use Rattle.mdf_command.specs.declared.command.Origin.{Origin}
use Rattle.mdf_command.specs.declared.command.Origin.TheVariants.{Source, Generated}
use Rattle.mdf_inspect.specs.Opened.{EndsOpened}
use Rattle.mdf_inspect.specs.Check.{EndsCheck}
use Rattle.mdf_inspect.specs.Info.{EndsInfo}
use Rattle.mdf_inspect.specs.Export.{EndsExport}
use Rattle.mdf_inspect.specs.Attachments.{EndsListing}
use Rattle.mdf_make.specs.Making.{LeavesOf}
use Rattle.mdf_make.specs.Finalize.{EndsFinalize, IsFinalImage}
use Rattle.mdf_make.specs.Sort.{EndsSort}
use Rattle.mdf_make.specs.Cut.{EndsCut}
use Rattle.mdf_make.specs.Concat.{AreBothLoaded, EndsConcat}
use Rattle.mdf_make.specs.Attach.{EndsAttach, IsAttachImage}
use Rattle.mdf_make.specs.Blamed.{BlamesCarried, BlamesJoined, only_blamed}
use Rattle.mdf_make.specs.declared.blamed.Input.{Input}
use Rattle.mdf_record.specs.Record.{Outcome}
use Rattle.mdf_record.specs.Recorded.{EndsGenerated, EndsRecord}
use Rattle.mdf_record.specs.Recovers.{AreRecovered}
use Rattle.mdf_run.specs.Asked.{IsUnrecorded}
use Rattle.mdf_run.specs.Kept.{IsDurable, Keeps}
use Rattle.mdf_run.specs.Told.{Told}

-- A file is shown, by what its disk and the sink tell before and after.
abbrev pub EndsShow : Aspect → DiskState → DiskState → SinkState → SinkState → ℕ → Type 0
EndsShow Opened disk disk' sink sink' status = EndsOpened disk disk' sink sink' status
EndsShow Verdict disk disk' sink sink' status = EndsCheck disk disk' sink sink' status
EndsShow Contents disk disk' sink sink' status = EndsInfo disk disk' sink sink' status
EndsShow (Table group) disk disk' sink sink' status =
    EndsExport group disk disk' sink sink' status × (status ≡ 6 → Rose sink.faults sink'.faults)
EndsShow Attachments disk disk' sink sink' status = EndsListing disk disk' sink sink' status

-- A file is made of another one at a time in ns, by what the disks of the input and of the output and the sink tell before and after.
abbrev pub EndsMake : Product → ℕ → DiskState → DiskState → DiskState → DiskState → SinkState → SinkState → ℕ → Type 0
EndsMake Finalized now first first' out out' sink sink' status = EndsFinalize now first first' out out' sink sink' status
EndsMake Sorted now first first' out out' sink sink' status = EndsSort now first first' out out' sink sink' status
EndsMake (Cut from to) now first first' out out' sink sink' status =
    EndsCut (record { from = from; to = to; now = now }) first first' out out' sink sink' status

-- what may be left of the output at any moment
abbrev pub Leaves : Product → ℕ → DiskState → DiskState → DiskState → Type 0
Leaves Finalized now first out out' = LeavesOf (IsLoaded first) (λ file. IsFinalImage file now) out out'
Leaves Sorted now first out out' = LeavesOf (IsLoaded first) (λ file. IsSortImage file now) out out'
Leaves (Cut from to) now first out out' =
    LeavesOf (IsLoaded first) (λ file. IsCutImage file (record { from = from; to = to; now = now })) out out'

-- A file is made of two at a time in ns, what may be left of it at any moment, and which input is blamed.
abbrev pub EndsJoin : Union → ℕ → DiskState → DiskState → DiskState → DiskState → DiskState → DiskState → SinkState → SinkState → ℕ → Type 0
EndsJoin Concat now first first' second second' out out' sink sink' status = EndsConcat now first first' second second' out out' sink sink' status
EndsJoin Attach now first first' second second' out out' sink sink' status = EndsAttach now first first' second second' out out' sink sink' status

abbrev pub LeavesJoined : Union → ℕ → DiskState → DiskState → DiskState → DiskState → Type 0
LeavesJoined Concat now first second out out' = LeavesOf (AreBothLoaded now first second) IsConcatImage out out'
LeavesJoined Attach now first second out out' = LeavesOf (AreBothLoaded now first second) IsAttachImage out out'

abbrev pub BlamesJoin : Union → ℕ → DiskState → DiskState → SinkState → SinkState → ℕ → Option Input → Type 0
BlamesJoin Concat now first second sink sink' status blamed = BlamesJoined now first second sink sink' status blamed
BlamesJoin Attach now first second sink sink' status blamed = BlamesCarried now first second sink sink' status blamed

-- A script is recorded, by what the source, the disk of the output and the sink tell before, and what is left.
abbrev pub EndsOrigin : Origin → List ℕ → ℕ → SourceState → SourceState → DiskState → Outcome → SinkState → SinkState → ℕ → Type 0
EndsOrigin Source name now source source' out left sink sink' status = EndsRecord source source' name now out left sink sink' status
EndsOrigin (Generated samples) name now source source' out left sink sink' status = EndsGenerated samples name now out left sink sink' status

-- this holds of the script, where the source tells its bytes and they are one
abbrev pub OfOrigin : Origin → Option (List ℕ) → (Script → Type 0) → Type 0
OfOrigin Source left P = (text : List ℕ) → left ≡ Some text → (script : Script) → script_of text ≡ Ok script → P script
OfOrigin (Generated samples) left P = P (generated_script samples)

-- A status that speaks of the source, of a disk or of the sink comes only where that has failed, and that of wrong words never.
pub record IsCaused (Source Device Sink : Type 0) (status : ℕ) : Type 0 where
  pub usage : status ≢ 1
  pub source : status ≡ 2 → Source
  pub device : status ≡ 4 → Device
  pub sink : status ≡ 6 → Sink

-- A recording ends so, and keeps what it promises whatever happens.
pub record EndsRecording (origin : Origin) (name : List ℕ) (now : ℕ) (source source' : SourceState) (out : DiskState) (left : Outcome) (sink sink' : SinkState) (status : ℕ) : Type 0 where
  pub ends : EndsOrigin origin name now source source' out left sink sink' status
  pub keeps : OfOrigin origin source.left (λ script. Keeps out.moment now script left.disk left.history left.marks sink sink' status)
  pub recovered : AreRecovered out.moment left
  pub durable : IsDurable status left.history left.marks
  pub caused : IsCaused (Rose source.faults source'.faults) (Rose out.faults left.disk.faults) (Rose sink.faults sink'.faults) status

-- How a run ends that was asked for this.
abbrev pub Does : Request → Told → Type 0
Does (shown input aspect) t = EndsShow aspect t.first t.first' t.sink t.sink' t.status
Does (made input output product) t =
    EndsMake product t.now t.first t.first' t.out t.left.disk t.sink t.sink' t.status × Leaves product t.now t.first t.out t.left.disk
Does (joined input second output union) t =
    EndsJoin union t.now t.first t.first' t.second t.second' t.out t.left.disk t.sink t.sink' t.status
    × LeavesJoined union t.now t.first t.second t.out t.left.disk
Does (recorded output origin) t = EndsRecording origin output t.now t.source t.source' t.out t.left t.sink t.sink' t.status

-- Which input is blamed: of two that which the fault is of, of a recording none, and else the only one where it is refused or too
-- long.
abbrev pub Blames : Request → Told → Type 0
Blames (joined input second output union) t = BlamesJoin union t.now t.first t.second t.sink t.sink' t.status t.blamed
Blames (recorded output origin) t = t.blamed ≡ None
Blames request t = t.blamed ≡ only_blamed t.status

-- so of a run that was asked for this, or for nothing
abbrev pub Ends : Option Request → Told → Type 0
Ends None t = Prints usage_line 1 t.sink t.sink' t.status
Ends (Some request) t = Does request t

abbrev pub BlamesAny : Option Request → Told → Type 0
BlamesAny None t = t.blamed ≡ only_blamed t.status
BlamesAny (Some request) t = Blames request t

-- It ends so, that input is blamed, and only a recording has a history and marks.
pub record HasEnded (asked : Option Request) (t : Told) : Type 0 where
  pub ends : Ends asked t
  pub blames : BlamesAny asked t
  pub no_history : IsUnrecorded asked → t.left.history ≡ []
  pub no_marks : IsUnrecorded asked → t.left.marks ≡ []

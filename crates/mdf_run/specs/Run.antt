-- What is said of a run by the words it was given, and by what its parts told before and after.
use Rattle.std.specs.Prelude.{◌≡◌, ◌↔◌, ◌⊎◌, ◌*◌, ◌<◌, ◌≤◌, List, ℕ, ℤ, [], length, drop, None, is_some, IfSome}
use mathlib.Core.List.{IsPrefix}
use Rattle.mdf_format.specs.Cause.{Rose}
use Rattle.mdf_disk.specs.Crash.{HoldsSince}
use Rattle.mdf_disk.specs.declared.disk.Disk.{Ghosts}
use Rattle.mdf_layout.specs.History.{source_samples}
use Rattle.mdf_layout.specs.Record.{history_size}
use Rattle.book_owned.specs.Kept.{MarksHold, StartHolds}
use Rattle.book_owned.specs.Marks.{AreRising, durable, last_mark}
use Rattle.acq_script.specs.Tasks.{samples_of}
use Rattle.tool_sort.specs.Sort.{IsSortImage}
use Rattle.tool_cut.specs.Cut.{IsCutImage}
use Rattle.tool_concat.specs.Concat.{IsConcatImage}
use Rattle.mdf_command.specs.Faults.{INPUT_LIMIT, READING_LIMIT}
use Rattle.mdf_command.specs.Load.{IsLoaded}
use Rattle.mdf_command.specs.Texts.{Prints, usage_line}
use Rattle.mdf_command.specs.Words.{Asks, AsksInput, AsksOutput, AsksSecond, AsksToMake, IsUsage, shown, made, joined, recorded}
use Rattle.mdf_command.specs.declared.command.Aspect.TheVariants.{Opened, Verdict, Contents, Table, Attachments}
use Rattle.mdf_command.specs.declared.command.Product.TheVariants.{Finalized, Sorted, Cut}
use Rattle.mdf_command.specs.declared.command.Union.TheVariants.{Concat, Attach}
use Rattle.mdf_command.specs.declared.command.Origin.TheVariants.{Source, Generated}
use Rattle.mdf_inspect.specs.Opened.{EndsOpened}
use Rattle.mdf_inspect.specs.Check.{EndsCheck}
use Rattle.mdf_inspect.specs.Info.{EndsInfo}
use Rattle.mdf_inspect.specs.Export.{EndsExport}
use Rattle.mdf_inspect.specs.Attachments.{EndsListing}
use Rattle.mdf_carried.specs.Samples.{IsRecovered}
use Rattle.mdf_record.specs.Causes.{HaveCauses}
use Rattle.mdf_record.specs.Head.{script_head}
use Rattle.mdf_record.specs.Record.{IsComplete, OfSources}
use Rattle.mdf_record.specs.Recorded.{EndsGenerated, EndsRecord}
use Rattle.mdf_record.specs.Recovers.{IsFinalizable, MarksRecover, StartRecovers}
use Rattle.mdf_record.specs.Sources.{AreOwnMarked}
use Rattle.mdf_make.specs.Making.{LeavesOf}
use Rattle.mdf_make.specs.Finalize.{EndsFinalize, IsFinalImage}
use Rattle.mdf_make.specs.Sort.{EndsSort}
use Rattle.mdf_make.specs.Cut.{EndsCut}
use Rattle.mdf_make.specs.Concat.{AreBothLoaded, EndsConcat}
use Rattle.mdf_make.specs.Attach.{EndsAttach, IsAttachImage}
use Rattle.mdf_make.specs.Blamed.{BlamesCarried, BlamesJoined, only_blamed}
use Rattle.mdf_run.specs.Kept.{AreJoinable, AsksToJoin, HasGroup, HasSaved, IfRecorded, IsCompletable, IsDone, IsDoneOrLacked, IsListable, IsMeasured, IsReported, OfRecording, RecordsNothing}
use Rattle.mdf_run.specs.Told.{Told}

-- What each command prints, and how it ends.
pub record RunPrints (words : List (List ℕ)) (t : Told) : Type 0 where
  pub usage : (t.status ≡ 1) ↔ IsUsage words
  pub usage_printed : IsUsage words → Prints usage_line 1 t.sink t.sink' t.status
  pub opened : (input : List ℕ) → Asks words (shown input Opened) → EndsOpened t.first t.first' t.sink t.sink' t.status
  pub check : (input : List ℕ) → Asks words (shown input Verdict) → EndsCheck t.first t.first' t.sink t.sink' t.status
  pub info : (input : List ℕ) → Asks words (shown input Contents) → EndsInfo t.first t.first' t.sink t.sink' t.status
  pub export : (input : List ℕ) (group : ℕ) → Asks words (shown input (Table group)) → EndsExport group t.first t.first' t.sink t.sink' t.status
  pub attachments : (input : List ℕ) → Asks words (shown input Attachments) → EndsListing t.first t.first' t.sink t.sink' t.status
  pub finalize : (input output : List ℕ) → Asks words (made input output Finalized)
      → EndsFinalize t.now t.first t.first' t.out t.left.disk t.sink t.sink' t.status
  pub sort : (input output : List ℕ) → Asks words (made input output Sorted)
      → EndsSort t.now t.first t.first' t.out t.left.disk t.sink t.sink' t.status
  pub cut : (input output : List ℕ) (from to : ℤ) → Asks words (made input output (Cut from to))
      → EndsCut (record { from = from; to = to; now = t.now }) t.first t.first' t.out t.left.disk t.sink t.sink' t.status
  pub concat : (input other output : List ℕ) → Asks words (joined input other output Concat)
      → EndsConcat t.now t.first t.first' t.second t.second' t.out t.left.disk t.sink t.sink' t.status
  pub attach : (input other output : List ℕ) → Asks words (joined input other output Attach)
      → EndsAttach t.now t.first t.first' t.second t.second' t.out t.left.disk t.sink t.sink' t.status
  pub recording : (name : List ℕ) → Asks words (recorded name Source)
      → EndsRecord t.source t.source' name t.now t.out t.left t.sink t.sink' t.status
  pub generated : (samples : ℕ) (name : List ℕ) → Asks words (recorded name (Generated samples))
      → EndsGenerated samples name t.now t.out t.left t.sink t.sink' t.status

-- What a recording keeps, whatever happens: of each crash, of the marks, of the samples of each source and of its flushes, and that
-- what is not durable fits into two blocks; what it has done where the status is 0, or 6; and what is printed of it where the status
-- is 0, with the line `live N` just where its script says `live`, and N the number of all samples. Another command has no history
-- and no marks.
pub record RunKeeps (words : List (List ℕ)) (t : Told) : Type 0 where
  pub marks_hold : OfRecording words t.source.left (λ script.
      MarksHold script.plan.shapes (script_head t.now script) t.left.disk.story t.left.disk.moment t.left.history t.left.marks)
  pub start_holds : OfRecording words t.source.left (λ script.
      StartHolds script.plan.shapes (script_head t.now script) t.left.disk.story t.out.moment t.left.history)
  pub marks_rise : OfRecording words t.source.left (λ _. (t.left.marks ≡ []) ⊎ AreRising (is_some t.left.disk.story) t.left.marks)
  pub own_prefix : OfRecording words t.source.left (λ script. OfSources script (λ number tasks.
      IsPrefix (source_samples script.plan.owners t.left.history number) (samples_of tasks)))
  pub flush_lines : OfRecording words t.source.left (λ script. OfSources script (λ number tasks.
      AreOwnMarked script.plan.owners number t.left.history t.left.marks
      (λ n. n < length (source_samples script.plan.owners t.left.history number)) [] tasks))
  pub pending : OfRecording words t.source.left (λ script.
      history_size script.plan.shapes (drop (durable t.left.marks) t.left.history) ≤ 2 * script.plan.block)
  pub marks_have_causes : OfRecording words t.source.left (λ script. (t.left.marks ≡ []) ⊎ HaveCauses script t.left.history t.left.marks)
  pub complete : OfRecording words t.source.left (λ script. IsDone t.status → IsComplete script t.left)
  pub live : OfRecording words t.source.left (λ script. t.status ≡ 0 → IsReported script t.left.disk t.left.history t.left.marks t.sink t.sink')
  pub no_history : RecordsNothing words → t.left.history ≡ []
  pub no_marks : RecordsNothing words → t.left.marks ≡ []

-- What a reader recovers of a recording by the tree of the file itself, whatever happens: of each crash since a mark, and since the
-- start; and of each crash since the last mark where the status is 0, or 6, or where no disk failed since the recording was begun, as
-- in a full session.
pub record RunRecovers (words : List (List ℕ)) (t : Told) : Type 0 where
  pub marks_recover : IfRecorded words (MarksRecover t.left.disk.story t.left.disk.moment t.left.history t.left.marks)
  pub start_recovers : IfRecorded words (StartRecovers t.left.disk.story t.out.moment t.left.history)
  pub all_recovered : IfRecorded words (IsDone t.status ⊎ HasSaved t.status t.left.marks
      → HoldsSince t.left.disk.story (last_mark t.left.marks).moment (λ file. IsRecovered file t.left.history))

-- Each sound input is made of and shown, unless a disk fails or memory is wanted: each file that a recording leaves but those that
-- are no MDF, and each other that is read as a recording and is not too long, is finalized; so is each that another tool left
-- unfinished and whose completed file is read; each finished file is sorted and cut, each group of one exported, and each pair of them
-- that can be joined is joined. The attachments of each finished file that are read are listed, and carried into each finished file.
pub record RunSucceeds (words : List (List ℕ)) (t : Told) : Type 0 where
  pub finalizes : (input output : List ℕ) → Asks words (made input output Finalized)
      → IfSome t.first.content (λ file. IsFinalizable file → IsDoneOrLacked t.status)
  pub completes : (input output : List ℕ) → Asks words (made input output Finalized)
      → IfSome t.first.content (λ file. IsCompletable file → length file ≤ INPUT_LIMIT → IsDoneOrLacked t.status)
  pub sorts : (input output : List ℕ) → Asks words (made input output Sorted)
      → IfSome t.first.content (λ file. IsMeasured file → length file ≤ INPUT_LIMIT → IsDoneOrLacked t.status)
  pub cuts : (input output : List ℕ) (from to : ℤ) → Asks words (made input output (Cut from to))
      → IfSome t.first.content (λ file. IsMeasured file → length file ≤ INPUT_LIMIT → IsDoneOrLacked t.status)
  pub exports : (input : List ℕ) (group : ℕ) → Asks words (shown input (Table group))
      → IfSome t.first.content (λ file. HasGroup file group → length file ≤ READING_LIMIT → IsDoneOrLacked t.status)
  pub lists : (input : List ℕ) → Asks words (shown input Attachments)
      → IfSome t.first.content (λ file. IsListable file → length file ≤ INPUT_LIMIT → IsDoneOrLacked t.status)
  pub concats : (input other output : List ℕ) → Asks words (joined input other output Concat)
      → IfSome t.first.content (λ one. IfSome t.second.content (λ two. AreJoinable one two
      → length one ≤ INPUT_LIMIT → length two ≤ INPUT_LIMIT → IsDoneOrLacked t.status))
  pub carries : (input other output : List ℕ) → Asks words (joined input other output Attach)
      → IfSome t.first.content (λ one. IfSome t.second.content (λ two. IsListable one × IsMeasured two
      → length one ≤ INPUT_LIMIT → length two ≤ INPUT_LIMIT → IsDoneOrLacked t.status))

-- What may be left of the output at any moment: nothing; or, where the inputs were loaded, at most one byte, a file with a first
-- byte other than `M` that is no MDF, or what the command makes of them.
pub record RunLeaves (words : List (List ℕ)) (t : Told) : Type 0 where
  pub finalize_leaves : (input output : List ℕ) → Asks words (made input output Finalized)
      → LeavesOf (IsLoaded t.first) (λ file. IsFinalImage file t.now) t.out t.left.disk
  pub sort_leaves : (input output : List ℕ) → Asks words (made input output Sorted)
      → LeavesOf (IsLoaded t.first) (λ file. IsSortImage file t.now) t.out t.left.disk
  pub cut_leaves : (input output : List ℕ) (from to : ℤ) → Asks words (made input output (Cut from to))
      → LeavesOf (IsLoaded t.first) (λ file. IsCutImage file (record { from = from; to = to; now = t.now })) t.out t.left.disk
  pub concat_leaves : (input other output : List ℕ) → Asks words (joined input other output Concat)
      → LeavesOf (AreBothLoaded t.now t.first t.second) IsConcatImage t.out t.left.disk
  pub attach_leaves : (input other output : List ℕ) → Asks words (joined input other output Attach)
      → LeavesOf (AreBothLoaded t.now t.first t.second) IsAttachImage t.out t.left.disk

-- A status that speaks of a disk, of the source or of the sink comes only where that has failed. And the input that is blamed: of
-- `concat` and of `attach` the one that the printed fault is of, or both, and none where a disk failed or memory was wanted; of another
-- command its only one, where it is refused or too long; and none of a recording.
pub record RunBlames (words : List (List ℕ)) (t : Told) : Type 0 where
  pub source_fault : t.status ≡ 2 → Rose t.source.faults t.source'.faults
  pub device_fault : t.status ≡ 4
      → Rose t.first.faults t.first'.faults ⊎ (Rose t.out.faults t.left.disk.faults ⊎ (AsksToJoin words × Rose t.second.faults t.second'.faults))
  pub sink_fault : t.status ≡ 6 → Rose t.sink.faults t.sink'.faults
  pub blames_joined : (input other output : List ℕ) → Asks words (joined input other output Concat)
      → BlamesJoined t.now t.first t.second t.sink t.sink' t.status t.blamed
  pub blames_carried : (input other output : List ℕ) → Asks words (joined input other output Attach)
      → BlamesCarried t.now t.first t.second t.sink t.sink' t.status t.blamed
  pub blames_one : ¬ AsksToJoin words → RecordsNothing words → t.blamed ≡ only_blamed t.status
  pub blames_none : IfRecorded words (t.blamed ≡ None)

-- The disks: only the inputs and the output that the words name are asked for, those to be read and this one to be made; no content
-- of an input changes, and a disk that is asked for nothing is as before.
pub record TouchesInput {D : Type 0} (tells : Ghosts D) (words : List (List ℕ)) (old new : D) : Type 0 where
  pub asked : AsksInput words (tells.asked new)
  pub content : tells.content new ≡ tells.content old
  pub untouched : tells.asked new ≡ None → new ≡ old

pub record TouchesSecond {D : Type 0} (tells : Ghosts D) (words : List (List ℕ)) (old new : D) : Type 0 where
  pub asked : AsksSecond words (tells.asked new)
  pub content : tells.content new ≡ tells.content old
  pub untouched : tells.asked new ≡ None → new ≡ old
  pub alone : ¬ AsksToJoin words → new ≡ old

pub record TouchesOutput {D : Type 0} (tells : Ghosts D) (words : List (List ℕ)) (old new : D) : Type 0 where
  pub asked : AsksOutput words (tells.asked new)
  pub untouched : tells.asked new ≡ None → new ≡ old
  pub alone : ((output : List ℕ) → ¬ AsksToMake words output) → new ≡ old

-- only `record` takes anything from the source
abbrev pub TouchesSource : {S : Type 0} → List (List ℕ) → S → S → Type 0
TouchesSource words old new = ((name : List ℕ) → ¬ Asks words (recorded name Source)) → new ≡ old

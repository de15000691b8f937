-- What is left when a log has run: of each part all that a recording leaves, and of each source that what its lines say is in the parts, one
-- behind the other.
use Rattle.std.specs.Prelude.{ℕ, ◌≡◌, ◌≢◌, ◌≤◌, ◌+◌, ◌-◌, ◌^◌, ◌⊎◌, ◌↔◌, true, false, List, [], ◌∷◌, ◌++◌, length, map, slice_get, All, Option, Some, None}
use Rattle.std.specs.List.{AllZip, flat_map}
use Rattle.std.specs.Io.KnownBytes.{Consumes, IsAtEnd}
use Rattle.mdf_format.specs.Cause.{Rose}
use Rattle.mdf_layout.specs.History.{source_samples}
use Rattle.mdf_port.specs.State.{SinkState}
use Rattle.mdf_spell.specs.Recording.{head_file}
use Rattle.acq_lines.specs.Lines.{IsCut, Reads, Unread, lines_behind, nothing}
use Rattle.acq_run.specs.Feeds.{flushes_behind, samples_of}
use Rattle.acq_run.specs.declared.feed.Fed.{Fed}
use Rattle.acq_lines.specs.Said.{AreFlushedMore, EndsLast, bad_in, feds_in, is_ended, said_in}
use Rattle.acq_lines.specs.Told.{TellsOn}
use Rattle.acq_lines.specs.Wants.{wants_memory}
use Rattle.acq_lines.specs.declared.feed.Halt.{Halt}
use Rattle.acq_lines.specs.declared.feed.Halt.TheVariants as halts
use Rattle.acq_script.specs.declared.script.Plan.{Plan}
use Rattle.mdf_command.specs.Texts.{Prints, numbered}
use Rattle.mdf_command.specs.declared.fault.Fault.{Fault}
use Rattle.mdf_command.specs.declared.fault.Fault.TheVariants as fault_
use Rattle.mdf_record.specs.Sources.{feds_of}
use Rattle.mdf_rotate.specs.Text.{part_line}
use Rattle.mdf_log.specs.Setup.{rules_in}
use Rattle.mdf_log.specs.Report.{log_status, log_text}
use Rattle.mdf_log.specs.declared.end.LogEnd.{LogEnd}
use Rattle.mdf_log.specs.declared.end.LogEnd.TheVariants.{Closed, Inputs, Refused}
use Rattle.mdf_log.specs.declared.end.SourceEnd.{SourceEnd}
use Rattle.mdf_log.specs.declared.end.Stop.{Stop}
use Rattle.mdf_log.specs.declared.end.Stop.TheVariants as stops
use Rattle.mdf_disk.specs.Served.{Served}
use Rattle.mdf_log.specs.Durable.{IsDurable}
use Rattle.mdf_log.specs.Parts.{AreParts, Follow, Part, durable_count, fault_of, lefts_of, live_of, recordings_of, sample_count, served_by}
use Rattle.mdf_log.specs.Tap.{TapState}

-- What a source did in a part: of what it handed in there all was done but the last at most, and just the samples of what was done are its
-- own in the history.
pub record DidIn (owners : List ℕ) (source : ℕ) (part : Part) (done : List Fed) : Type 0 where
  pub rest : List Fed
  pub handed : slice_get (map feds_of part.script.lists) source ≡ Some (done ++ rest)
  pub one : length rest ≤ 1
  pub own : source_samples owners part.left.history source ≡ samples_of done

-- what it did in all parts, one behind the other
abbrev pub in_order : List (List Fed) → List Fed
in_order dones = flat_map (λ done. done) dones

-- Why nothing more came of an input: it is at its end, and no line is left of what was read; a line ended it; it failed, and no line is left; memory
-- was wanted for a line; or as much was handled, and so much was done, as can be counted. One that was called off has no line left; why it was stands
-- in `called`.
abbrev pub HaltsBy : Plan → TapState → TapState → List (Option (Option Fed)) → ℕ → Unread → Halt → Type 0
HaltsBy plan old new said done rest halts.Input = IsAtEnd new.input.left × (lines_behind rest [] ≡ [])
HaltsBy plan old new said done rest halts.Line = is_ended said ≡ true
HaltsBy plan old new said done rest halts.Failed = Rose old.input.faults new.input.faults × (lines_behind rest [] ≡ [])
HaltsBy plan old new said done rest halts.Memory = wants_memory (rules_in plan) rest ≡ true
HaltsBy plan old new said done rest halts.Count = 2 ^ 64 ≤ length said + done + 2
HaltsBy plan old new said done rest halts.Called = lines_behind rest [] ≡ []

-- Why a source stopped: nothing more came, and all that it handed in was done; or something went wrong, and its next was not done, or not asked for.
abbrev pub StopsBy : Plan → TapState → TapState → List (Option (Option Fed)) → ℕ → Unread → List Fed → Option Fault → Stop → Type 0
StopsBy plan old new said done rest refused problem (stops.Halted halt) = (refused ≡ []) × HaltsBy plan old new said done rest halt
StopsBy plan old new said done rest refused problem stops.Refused = (length refused ≤ 1) × (problem ≢ None)

-- so many samples of a source are durable, by one of these parts
pub record IsDurableAmong (plan : Plan) (now : ℕ) (parts : List Part) (source n : ℕ) : Type 0 where
  pub before : List Part
  pub part : Part
  pub after : List Part
  pub stands : parts ≡ before ++ part ∷ after
  pub durable : IsDurable plan (head_file plan.form now plan.rows) (lefts_of before) part.left source n

-- the last of these numbers, if any stands there, is this one
abbrev pub EndsWith : List ℕ → ℕ → Type 0
EndsWith numbers n = (before : List ℕ) × (numbers ≡ before ++ n ∷ [])

-- One source over all parts. Just these bytes were read of its input, and just these lines of them handled, in order. An input that failed is told
-- so. What was done of it, part after part, is what the good lines say, in order, with more flushes among it, and one
-- more at most that was not done. So many of its lines are bad, and so many of its samples were accepted. It was told, for each flush
-- that was done, how many of its samples are durable, over all parts, and, where its last was not done, at the end how many were accepted, and nothing else: no sooner,
-- since a flush may fail.
-- What it was told is so. The last that it is told is all of its samples, where it has some, unless the disk failed.
pub record IsLogged (plan : Plan) (now : ℕ) (parts : List Part) (problem : Option Fault) (source : ℕ) (old new : TapState) (end : SourceEnd) : Type 0 where
  pub bytes : List ℕ
  pub taken : Consumes old.input.left new.input.left bytes
  pub calm : end.stop ≢ stops.Halted halts.Failed → new.input.faults ≡ old.input.faults
  pub lines : List (Option (List ℕ))
  pub rest : Unread
  pub reads : Reads nothing bytes lines rest
  pub ends_last : EndsLast (said_in (rules_in plan) source lines)
  pub dones : List (List Fed)
  pub did : AllZip (DidIn plan.owners source) parts dones
  pub refused : List Fed
  pub says : AreFlushedMore false (in_order dones ++ refused) (feds_in (said_in (rules_in plan) source lines))
  pub bad_is : end.bad ≡ bad_in (said_in (rules_in plan) source lines)
  pub cut_is : end.cut ≡ true ↔ IsCut rest
  pub accepted_is : end.accepted ≡ length (samples_of (in_order dones))
  pub stopped : StopsBy plan old new (said_in (rules_in plan) source lines) (length (in_order dones)) rest refused problem end.stop
  pub called : end.stop ≡ stops.Halted halts.Called → (problem ≢ None) ⊎ (length parts ≡ 2 ^ 64 - 1)
  pub last : List ℕ
  pub last_is : (last ≡ []) ⊎ ((end.stop ≡ stops.Refused) × (last ≡ end.accepted ∷ []))
  pub told : TellsOn false end.deaf old.told new.told source (flushes_behind 0 (in_order dones) ++ last)
  pub durable : All (IsDurableAmong plan now parts source) (flushes_behind 0 (in_order dones) ++ last)
  pub told_all : problem ≢ Some fault_.Device → end.accepted ≢ 0 → EndsWith (flushes_behind 0 (in_order dones) ++ last) end.accepted

-- Parts were recorded over the plan of the setup, one behind the other, and each source of the plan has an input and an end.
pub record HasLogged (Says : Plan → Type 0) (output : List ℕ) (now : ℕ) (parts : List Part) (olds news : List TapState)
    (ends : List SourceEnd) (samples durable : ℕ) (live : Option ℕ) (problem : Option Fault) : Type 0 where
  pub plan : Plan
  pub says : Says plan
  pub each : AreParts plan output now parts
  pub final : Part
  pub follow : Follow parts final
  pub problem_is : problem ≡ fault_of final.end
  pub live_is : live ≡ live_of final.end
  pub samples_is : samples ≡ sample_count parts
  pub durable_is : durable ≡ durable_count parts
  pub counts : (length olds ≡ plan.sources) × (length news ≡ plan.sources) × (length ends ≡ plan.sources)
  pub sources : (source : ℕ) (old new : TapState) (end : SourceEnd) → slice_get olds source ≡ Some old → slice_get news source ≡ Some new
      → slice_get ends source ≡ Some end → IsLogged plan now parts problem source old new end

-- There is no setup, or there is one, with as many sources as there are inputs, and memory was wanted before any disk was: of no input that is left a
-- byte was taken, and nobody was told anything.
pub record IsNotLogged (Says : Plan → Type 0) (Refuses : Fault → Type 0) (parts : List Part) (olds news : List TapState) (problem : Fault) : Type 0 where
  pub comes : Refuses problem ⊎ ((problem ≡ fault_.Memory) × (plan : Plan) × Says plan × (length olds ≡ plan.sources))
  pub none : parts ≡ []
  pub same : (news ≡ olds) ⊎ ((problem ≡ fault_.Memory) × (news ≡ []))

-- The plan has another number of sources than there are inputs: no disk was wanted, and of no input a byte was taken.
pub record IsMismatched (Says : Plan → Type 0) (parts : List Part) (olds news : List TapState) (sources : ℕ) : Type 0 where
  pub plan : Plan
  pub says : Says plan
  pub sources_is : sources ≡ plan.sources
  pub differs : length olds ≢ plan.sources
  pub none : parts ≡ []
  pub same : news ≡ olds

-- What a log leaves.
abbrev pub LogComes : (Plan → Type 0) → (Fault → Type 0) → List ℕ → ℕ → List Part → List TapState → List TapState → LogEnd → Type 0
LogComes Says Refuses output now parts olds news (Inputs sources) = IsMismatched Says parts olds news sources
LogComes Says Refuses output now parts olds news (Refused problem) = IsNotLogged Says Refuses parts olds news problem
LogComes Says Refuses output now parts olds news (Closed ends samples durable live problem) =
    HasLogged Says output now parts olds news ends.items samples durable live problem

-- How a log runs, by what its setup says, or why there is none, and what its inputs and sinks tell before and after: its parts are on just the
-- disks that were handed out, each taken back before the next one was handed out, and it prints a line for each part that was begun, and then how
-- it ended.
pub record LogRuns (Says : Plan → Type 0) (Refuses : Fault → Type 0) (output : List ℕ) (now : ℕ) (Serves : List Served → Type 0) (olds news : List TapState)
    (sink sink' : SinkState) (end : LogEnd) (status : ℕ) : Type 0 where
  pub parts : List Part
  pub comes : LogComes Says Refuses output now parts olds news end
  pub serves : Serves (served_by parts)
  pub printed : Prints (numbered part_line 0 (recordings_of parts) ++ log_text end) (log_status end) sink sink' status

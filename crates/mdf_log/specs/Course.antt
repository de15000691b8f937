-- How a log goes on from one part to the next.
use Rattle.std.specs.Prelude.{ℕ, ◌≡◌, ◌≢◌, ◌+◌, ◌-◌, ◌≤◌, ◌<◌, ◌↔◌, ◌⊎◌, ◌^◌, Bool, true, false, List, [], ◌∷◌, ◌++◌, length, map, All, zero, suc, Option, Some, None}
use Rattle.std.specs.List.{AllZip, list_any, slice_index_or}
use Rattle.book_owned.specs.Marks.{durable}
use Rattle.mdf_port.specs.State.{SinkState, sink_state, source_state}
use Rattle.mdf_port.specs.declared.source.Source as source
use Rattle.mdf_port.specs.declared.sink.Sink as sink
use Rattle.mdf_spell.specs.Recording.{head_file}
use Rattle.acq_lines.specs.Lines.{IsCut}
use Rattle.acq_run.specs.Feeds.{flushes_behind, samples_of}
use Rattle.acq_run.specs.declared.feed.Fed.{Fed}
use Rattle.acq_run.specs.declared.feed.Fed.TheVariants as fed
use Rattle.acq_lines.specs.Handled.{Halts, Hands, IsFresh, Serves, Waits}
use Rattle.acq_lines.specs.Spot.{fixed, spot}
use Rattle.acq_lines.specs.Told.{TellsOn}
use Rattle.acq_lines.specs.declared.feed.Halt.{Halt}
use Rattle.acq_lines.specs.declared.feed.Halt.TheVariants.{Called}
use Rattle.acq_lines.specs.declared.feed.LineFeed.{LineFeed}
use Rattle.acq_lines.specs.declared.rules.LineRules.{LineRules}
use Rattle.acq_run.specs.Works.{AreMarked}
use Rattle.acq_script.specs.declared.script.Plan.{Plan}
use Rattle.mdf_command.specs.Texts.{Gives, Prints, numbered}
use Rattle.mdf_command.specs.declared.fault.Fault.{Fault}
use Rattle.mdf_command.specs.declared.fault.Fault.TheVariants as fault_
use Rattle.mdf_rotate.specs.Rotate.{recorded_in}
use Rattle.mdf_rotate.specs.Text.{part_line}
use Rattle.mdf_log.specs.Setup.{rules_in}
use Rattle.mdf_log.specs.Report.{log_status, log_text}
use Rattle.mdf_log.specs.declared.end.LogEnd.{LogEnd}
use Rattle.mdf_log.specs.declared.end.LogEnd.TheVariants.{Closed, Inputs, Refused}
use Rattle.mdf_log.specs.declared.end.SourceEnd.{SourceEnd}
use Rattle.mdf_log.specs.declared.end.Stop.{Stop}
use Rattle.mdf_log.specs.declared.end.Stop.TheVariants as stops
use Rattle.mdf_disk.specs.Served.{Served}
use Rattle.mdf_log.specs.Durable.{IsDurableWhole}
use Rattle.mdf_log.specs.Logged.{DidIn, IsDurableAmong, in_order}
use Rattle.mdf_log.specs.Parts.{AreParts, Follow, GoesOn, IsPart, Part, Precedes, durable_count, fault_of, lefts_of, live_of, recordings_of, sample_count, served_by, served_of}
use Rattle.mdf_log.specs.declared.log.Logged.{Logged}
use Rattle.mdf_log.specs.declared.parts.Course.{Course}
use Rattle.mdf_log.specs.declared.tap.Tap.{Tap}

-- a feed of this source of the plan, which has not done more than can be counted
pub record IsRuled {S K : Type 0} {tells : source.Ghosts S} (plan : Plan) (source : ℕ) (feed : LineFeed S K tells) : Type 0 where
  pub rules : (fixed feed).rules ≡ rules_in plan
  pub number : (fixed feed).number ≡ source
  pub few : feed.steps < 2 ^ 64

-- each of these is, by its place
abbrev pub AreRuled : {S K : Type 0} {tells : source.Ghosts S} → Plan → List (LineFeed S K tells) → Type 0
AreRuled {S} {K} {tells} plan feeds = (source : ℕ) (d : LineFeed S K tells) → source < length feeds → IsRuled plan source (slice_index_or feeds source d)

-- it can be taken up in a next part: nothing more comes of it, or just a sample of it was not done
abbrev pub IsLeft : {S K : Type 0} {tells : source.Ghosts S} → LineFeed S K tells → List Fed → Type 0
IsLeft feed rest = ((rest ≡ []) × Halts feed) ⊎ ((sample : _) × (rest ≡ fed.Sample sample ∷ []))

-- From the one feed to the other a source worked in a part, or none did: so much was done, each flush of it has its mark, and so many samples
-- of it were accepted in all, before and behind.
pub record HasMoved {S K : Type 0} {tells : source.Ghosts S} (holds : sink.Ghosts K) (plan : Plan) (part : Part) (source : ℕ) (old new : LineFeed S K tells) (before behind : ℕ) : Type 0 where
  pub done : List Fed
  pub did : DidIn plan.owners source part done
  pub hands : Hands holds old (done ++ did.rest) new
  pub marked : AreMarked plan.owners source part.left.history part.left.marks [] done
  pub counted : behind ≡ before + length (samples_of done)
  pub waiting : (task : Fed) → did.rest ≡ task ∷ [] → Waits new task
  pub still : did.rest ≡ [] → Halts new ⊎ (new ≡ old)
  pub well : fault_of part.end ≡ None → Halts new
  pub left : Precedes part → IsLeft new did.rest

-- Over these parts a source served this from its first feed on, each flush of it is durable, and so many samples were accepted.
pub record HasServed {S K : Type 0} {tells : source.Ghosts S} (holds : sink.Ghosts K) (plan : Plan) (now : ℕ) (parts : List Part) (source : ℕ) (first feed : LineFeed S K tells) (accepted : ℕ) : Type 0 where
  pub dones : List (List Fed)
  pub did : AllZip (DidIn plan.owners source) parts dones
  pub served : Serves holds first (in_order dones) feed
  pub told : feed.flushed ≡ None
  pub accepted_is : accepted ≡ length (samples_of (in_order dones))
  pub durable : All (IsDurableAmong plan now parts source) (flushes_behind 0 (in_order dones))

-- So it did behind the last part, where its last may not be done.
pub record HasEnded {S K : Type 0} {tells : source.Ghosts S} (holds : sink.Ghosts K) (plan : Plan) (now : ℕ) (parts : List Part) (problem : Option Fault) (source : ℕ) (first feed : LineFeed S K tells) (accepted : ℕ) : Type 0 where
  pub dones : List (List Fed)
  pub did : AllZip (DidIn plan.owners source) parts dones
  pub rest : List Fed
  pub one : length rest ≤ 1
  pub served : Serves holds first (in_order dones ++ rest) feed
  pub waiting : (task : Fed) → rest ≡ task ∷ [] → Waits feed task
  pub told : rest ≡ [] → feed.flushed ≡ None
  pub well : problem ≡ None → Halts feed
  pub accepted_is : accepted ≡ length (samples_of (in_order dones))
  pub durable : All (IsDurableAmong plan now parts source) (flushes_behind 0 (in_order dones))

-- a feed was called off
abbrev pub is_called_off : Option Halt → Bool
is_called_off (Some Called) = true
is_called_off _ = false

abbrev pub is_called : {S K : Type 0} {tells : source.Ghosts S} → LineFeed S K tells → Bool
is_called feed = is_called_off feed.halt

-- From the one state of a log to the other the next part was recorded.
pub record IsNextPart {S K : Type 0} {tells : source.Ghosts S} (holds : sink.Ghosts K) (plan : Plan) (output : List ℕ) (now : ℕ) (Serves : List Served → Type 0)
    (sink sink' : SinkState) (old new : Course S K tells) (on : Bool) : Type 0 where
  pub part : Part
  pub is_part : IsPart plan output now old.tally.parts part
  pub serves : Serves (served_of part)
  pub gives : (before : List ℕ) (first : SinkState) → Gives before first sink old.given → Gives (before ++ part_line old.tally.parts (recorded_in part.left)) first sink' new.given
  pub parts : new.tally.parts ≡ old.tally.parts + 1
  pub samples : new.tally.samples ≡ old.tally.samples + length part.left.history
  pub durable_is : new.tally.durable ≡ old.tally.durable + durable part.left.marks
  pub problem : new.fault ≡ fault_of part.end
  pub live : new.live ≡ live_of part.end
  pub on_is : on ≡ true ↔ (GoesOn part ⊎ ((fault_of part.end ≡ None) × (list_any is_called new.feeds.items ≡ true)))
  pub count : length new.feeds.items ≡ length old.feeds.items
  pub counts : length new.tally.accepted.items ≡ length old.tally.accepted.items
  pub sources : (source : ℕ) (d : LineFeed S K tells) (n : ℕ) → source < length old.feeds.items
      → HasMoved holds plan part source (slice_index_or old.feeds.items source d) (slice_index_or new.feeds.items source d)
      (slice_index_or old.tally.accepted.items source n) (slice_index_or new.tally.accepted.items source n)

-- what parts come to: they are on just these disks, and a line for each was printed
pub record ComeTo {S K : Type 0} {tells : source.Ghosts S} (plan : Plan) (output : List ℕ) (now : ℕ) (Serves : List Served → Type 0) (sink sink' : SinkState)
    (parts : List Part) (firsts : List (LineFeed S K tells)) (course : Course S K tells) : Type 0 where
  pub each : AreParts plan output now parts
  pub serves : Serves (served_by parts)
  pub gives : Gives (numbered part_line 0 (recordings_of parts)) sink sink' course.given
  pub parts_are : course.tally.parts ≡ length parts
  pub samples_are : course.tally.samples ≡ sample_count parts
  pub durable_are : course.tally.durable ≡ durable_count parts
  pub count : length course.feeds.items ≡ length firsts
  pub counts : length course.tally.accepted.items ≡ length firsts

-- A log between two parts: behind each so far another one begins, and it is durable whole.
pub record HasGone {S K : Type 0} {tells : source.Ghosts S} (holds : sink.Ghosts K) (plan : Plan) (output : List ℕ) (now : ℕ) (Serves : List Served → Type 0)
    (sink sink' : SinkState) (firsts : List (LineFeed S K tells)) (course : Course S K tells) : Type 0 where
  pub parts : List Part
  pub come : ComeTo plan output now Serves sink sink' parts firsts course
  pub full : All Precedes parts
  pub whole : All (IsDurableWhole plan (head_file plan.form now plan.rows)) (lefts_of parts)
  pub running : (source : ℕ) (d : LineFeed S K tells) → source < length firsts → (slice_index_or firsts source d).halt ≡ None
  pub sources : (source : ℕ) (d : LineFeed S K tells) (n : ℕ) → source < length firsts
      → HasServed holds plan now parts source (slice_index_or firsts source d) (slice_index_or course.feeds.items source d) (slice_index_or course.tally.accepted.items source n)

-- A log behind its last part: a source that was called off had to be, unless as many parts were made as can be numbered.
pub record HasRun {S K : Type 0} {tells : source.Ghosts S} (holds : sink.Ghosts K) (plan : Plan) (output : List ℕ) (now : ℕ) (Serves : List Served → Type 0)
    (sink sink' : SinkState) (firsts : List (LineFeed S K tells)) (course : Course S K tells) : Type 0 where
  pub parts : List Part
  pub come : ComeTo plan output now Serves sink sink' parts firsts course
  pub final : Part
  pub follow : Follow parts final
  pub whole : All (IsDurableWhole plan (head_file plan.form now plan.rows)) (lefts_of follow.before)
  pub problem : course.fault ≡ fault_of final.end
  pub live : course.live ≡ live_of final.end
  pub called : (source : ℕ) (d : LineFeed S K tells) → source < length firsts → (slice_index_or course.feeds.items source d).halt ≡ Some Called
      → (course.fault ≢ None) ⊎ (length parts ≡ 2 ^ 64 - 1)
  pub sources : (source : ℕ) (d : LineFeed S K tells) (n : ℕ) → source < length firsts
      → HasEnded holds plan now parts course.fault source (slice_index_or firsts source d) (slice_index_or course.feeds.items source d) (slice_index_or course.tally.accepted.items source n)

-- each of these feeds is over the tap at its place, of which nothing was taken
abbrev pub AreFresh : {S K : Type 0} {tells : source.Ghosts S} → sink.Ghosts K → LineRules → List (Tap S K) → List (LineFeed S K tells) → Type 0
AreFresh {S} {K} {tells} holds rules taps feeds = (source : ℕ) (tap : Tap S K) (d : LineFeed S K tells) → source < length taps
    → IsFresh holds rules source (slice_index_or taps source tap).input (slice_index_or taps source tap).told (slice_index_or feeds source d)

-- why a source stopped, by what its feed says
abbrev pub stop_of : Option Halt → Stop
stop_of (Some halt) = stops.Halted halt
stop_of None = stops.Refused

-- the disk did not fail
abbrev pub is_calm : Option Fault → Bool
is_calm (Some fault_.Device) = false
is_calm _ = true

-- What a source is told at last: how many of its samples were accepted, where all are durable, there are some, and the feed may not have told it.
abbrev pub last_of : Option Halt → Bool → ℕ → List ℕ
last_of None true zero = []
last_of None true (suc n) = suc n ∷ []
last_of None false accepted = []
last_of (Some halt) durable accepted = []

-- how a source ends whose feed is let go, and what is left of its tap
pub record HasLeft {S K : Type 0} {tells : source.Ghosts S} (holds : sink.Ghosts K) (source : ℕ) (feed : LineFeed S K tells) (accepted : ℕ) (durable : Bool) (end : SourceEnd) (tap : Tap S K) : Type 0 where
  pub accepted_is : end.accepted ≡ accepted
  pub bad_is : end.bad ≡ (spot holds feed).bad
  pub cut_is : end.cut ≡ true ↔ IsCut (spot holds feed).unread
  pub stop_is : end.stop ≡ stop_of feed.halt
  pub input_is : source_state tells tap.input ≡ (spot holds feed).input
  pub told : TellsOn (spot holds feed).deaf end.deaf (spot holds feed).told (sink_state holds tap.told) source (last_of feed.halt durable accepted)

-- each of these, by its place
abbrev pub HaveLeft : {S K : Type 0} {tells : source.Ghosts S} → sink.Ghosts K → List (LineFeed S K tells) → List ℕ → Bool → List SourceEnd → List (Tap S K) → Type 0
HaveLeft {S} {K} {tells} holds feeds accepted durable ends taps = (source : ℕ) (d : LineFeed S K tells) (n : ℕ) (end : SourceEnd) (tap : Tap S K) → source < length feeds
    → HasLeft holds source (slice_index_or feeds source d) (slice_index_or accepted source n) durable (slice_index_or ends source end) (slice_index_or taps source tap)

-- a log ended as this course did, with these ends of its sources
abbrev pub ClosesAs : {S K : Type 0} {tells : source.Ghosts S} → Course S K tells → LogEnd → List SourceEnd → Type 0
ClosesAs course (Inputs sources) ends = ⊥
ClosesAs course (Refused problem) ends = ⊥
ClosesAs course (Closed sources samples durable live problem) ends =
    (sources.items ≡ ends) × (samples ≡ course.tally.samples) × (durable ≡ course.tally.durable) × (live ≡ course.live) × (problem ≡ course.fault)

-- what is left of a log behind its last part
pub record Finishes {S K : Type 0} {tells : source.Ghosts S} (holds : sink.Ghosts K) (course : Course S K tells) (sink sink' : SinkState) (logged : Logged S K) : Type 0 where
  pub ends : List SourceEnd
  pub end_is : ClosesAs course logged.end ends
  pub count : (length ends ≡ length course.feeds.items) × (length logged.taps.items ≡ length course.feeds.items)
  pub left : HaveLeft holds course.feeds.items course.tally.accepted.items (is_calm course.fault) ends logged.taps.items
  pub printed : (before : List ℕ) (first : SinkState) → Gives before first sink course.given → Prints (before ++ log_text logged.end) (log_status logged.end) first sink' logged.status

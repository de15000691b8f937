-- What a feed of lines did from one spot to another, and why nothing more comes of it.
use Rattle.std.specs.Prelude.{ℕ, ◌≡◌, ◌+◌, ◌^◌, ◌≤◌, ◌<◌, ◌⊎◌, Bool, true, false, ◌||◌, List, [], ◌∷◌, ◌++◌, length, All, Option, Some, None, IfSome}
use Rattle.std.specs.Io.KnownBytes.{Consumes, IsAtEnd}
use Rattle.std.specs.Option.{option_to_list}
use Rattle.mdf_format.specs.Cause.{Rose}
use Rattle.mdf_port.specs.State.{sink_state, source_state}
use Rattle.mdf_port.specs.declared.source.Source as source
use Rattle.mdf_port.specs.declared.sink.Sink as sink
use Rattle.acq_lines.specs.Lines.{Reads, lines_behind, nothing}
use Rattle.mdf_layout.specs.declared.sample.Sample.{Sample}
use Rattle.acq_run.specs.Feeds.{flushes_behind, samples_of}
use Rattle.acq_run.specs.declared.feed.Fed.{Fed}
use Rattle.acq_run.specs.declared.feed.Fed.TheVariants as fed
use Rattle.acq_lines.specs.Act.{Act, AreCommitted, handed_in, pending_behind, read_in}
use Rattle.acq_lines.specs.Rules.{MayCome, rules_of}
use Rattle.acq_lines.specs.Told.{TellsOn}
use Rattle.acq_lines.specs.Said.{AreFlushedMore, EndsLast, bad_in, feds_in, is_ended, said_in}
use Rattle.acq_lines.specs.Spot.{Fixed, Spot, fixed, spot, spot_before}
use Rattle.acq_lines.specs.Wants.{wants_memory}
use Rattle.acq_lines.specs.declared.rules.LineRules.{LineRules}
use Rattle.acq_lines.specs.declared.feed.Halt.{Halt}
use Rattle.acq_lines.specs.declared.feed.Halt.TheVariants.{Input, Line, Failed, Memory, Count, Called}
use Rattle.acq_lines.specs.declared.feed.LineFeed.{LineFeed}

-- Just this was read, just these lines of it were handled, in order, and just what they say was handed in, with more flushes among it: none is
-- left out where more is read. So many lines were bad. Nothing is handled and nothing is read behind a line that ends it. Of each flush that was handed in its source
-- was told how many of its samples stand before it, when the next was asked for and no sooner: then it was done.
pub record Handled (at : Fixed) (old : Spot) (feds : List Fed) (new : Spot) : Type 0 where
  pub later : old.input.faults ≤ new.input.faults
  pub may : All (MayCome at.rules at.number) feds
  pub steps : old.steps + length feds ≤ new.steps
  pub few : old.steps < 2 ^ 64 → new.steps < 2 ^ 64
  pub acts : List Act
  pub handed : handed_in acts ≡ feds
  pub taken : Consumes old.input.left new.input.left (read_in acts)
  pub committed : AreCommitted old.pending acts
  pub pending_is : new.pending ≡ pending_behind old.pending feds
  pub lines : List (Option (List ℕ))
  pub most : new.steps ≤ old.steps + length lines + length feds
  pub reads : Reads old.unread (read_in acts) lines new.unread
  pub none_over : old.over ≡ true → (lines ≡ []) × (new.input ≡ old.input)
  pub ends_last : EndsLast (said_in at.rules at.number lines)
  pub over_is : new.over ≡ (old.over || is_ended (said_in at.rules at.number lines))
  pub says : AreFlushedMore old.pending feds (feds_in (said_in at.rules at.number lines))
  pub bad_is : new.bad ≡ old.bad + bad_in (said_in at.rules at.number lines)
  pub count_is : new.count ≡ old.count + length (samples_of feds)
  pub numbers : List ℕ
  pub told : TellsOn old.deaf new.deaf old.told new.told at.number numbers
  pub told_are : numbers ++ option_to_list new.flushed ≡ option_to_list old.flushed ++ flushes_behind old.count feds

-- Why nothing more comes: the input is at its end, and no line is left of what was read; a line ended it; the input failed, and no line is left;
-- memory was wanted for a line; as much was handled and handed in as can be counted; it was called off, and no line is left.
abbrev pub HaltsAt : Fixed → Spot → Halt → Type 0
HaltsAt at spot Input = IsAtEnd spot.input.left × (lines_behind spot.unread [] ≡ [])
HaltsAt at spot Line = spot.over ≡ true
HaltsAt at spot Failed = Rose at.first_faults spot.input.faults × (lines_behind spot.unread [] ≡ [])
HaltsAt at spot Memory = wants_memory at.rules spot.unread ≡ true
HaltsAt at spot Count = 2 ^ 64 ≤ spot.steps + 2
HaltsAt at spot Called = lines_behind spot.unread [] ≡ []

-- So it is with this cause, all that was handed in has a flush behind it, and its source was told of each.
pub record Stops {S K : Type 0} {tells : source.Ghosts S} (holds : sink.Ghosts K) (feed : LineFeed S K tells) (halt : Halt) : Type 0 where
  pub cause : HaltsAt (fixed feed) (spot holds feed) halt
  pub committed : feed.pending ≡ false
  pub told : feed.flushed ≡ None

-- where nothing more comes of it, it is so
abbrev pub StopsWell : {S K : Type 0} {tells : source.Ghosts S} → sink.Ghosts K → LineFeed S K tells → Type 0
StopsWell holds feed = IfSome feed.halt (Stops holds feed)

-- From the one feed to the other, in one part or over several, these were handed in and none of them was put back. An input that failed ends it;
-- and of one that has ended, but was not called off, nothing more comes, for the same reason. In an impl generic in K: Sink it is `Serves K.Sink`
pub record Serves {S K : Type 0} {tells : source.Ghosts S} (holds : sink.Ghosts K) (old : LineFeed S K tells) (feds : List Fed) (new : LineFeed S K tells) : Type 0 where
  pub fixed_is : fixed new ≡ fixed old
  pub handled : Handled (fixed old) (spot holds old) feds (spot holds new)
  pub stops : StopsWell holds old → StopsWell holds new
  pub calm : (new.halt ≡ Some Failed → ⊥) → (spot holds new).input.faults ≡ (spot holds old).input.faults
  pub ended : (halt : Halt) → (halt ≡ Called → ⊥) → old.halt ≡ Some halt → (feds ≡ []) × (new.halt ≡ Some halt)

-- From the one spot to the other nothing was read, and the lines that were handled say just this.
pub record SaysJust (at : Fixed) (old : Spot) (feds : List Fed) (new : Spot) : Type 0 where
  pub same : new.input ≡ old.input
  pub lines : List (Option (List ℕ))
  pub reads : Reads old.unread [] lines new.unread
  pub says : feds_in (said_in at.rules at.number lines) ≡ feds

-- Why a flush comes that no line says: no line is left of what was read; a line ended it; memory was wanted for the next line; as much was handled
-- and handed in as can be counted.
abbrev pub IsDue : Fixed → Bool → Spot → Type 0
IsDue at wanted spot =
    (lines_behind spot.unread [] ≡ []) ⊎ ((spot.over ≡ true) ⊎ (((wanted ≡ true) × (wants_memory at.rules spot.unread ≡ true)) ⊎ (2 ^ 64 ≤ spot.steps + 2)))

-- each sample has a flush behind it, and no line that is left of what was read says anything to be handed in: more may be read
abbrev pub MayRead : Fixed → Spot → Type 0
MayRead at spot = (spot.pending ≡ false) × (feds_in (said_in at.rules at.number (lines_behind spot.unread [])) ≡ [])

-- What comes next is what the next line says that says anything; or, where none does, the flush that is due. Before that more is read only where
-- it may be.
abbrev pub ComesNext : Fixed → Spot → Fed → Bool → Spot → Type 0
ComesNext at old task wanted new = SaysJust at old (task ∷ []) new ⊎ (((task ≡ fed.Flush) × SaysJust at old [] new × IsDue at wanted new) ⊎ MayRead at old)

-- where memory was wanted for a line, and each sample has its flush, nothing more comes
abbrev pub EndsWanted : Bool → Bool → List Fed → Bool → Type 0
EndsWanted wanted pending feds wanted' = wanted ≡ true → pending ≡ false → (feds ≡ []) × (wanted' ≡ true)

-- What holds besides within one part. As long as it goes on, what it hands in is what comes next. It can go back behind all of these but the last, where that is a sample; and where none was
-- handed in it is the same. Of one that has ended, or was called off, nothing more comes, for the same reason.
pub record InOnePart {S K : Type 0} {tells : source.Ghosts S} (holds : sink.Ghosts K) (old : LineFeed S K tells) (feds : List Fed) (new : LineFeed S K tells) : Type 0 where
  pub next : (task : Fed) → feds ≡ task ∷ [] → new.halt ≡ None → ComesNext (fixed old) (spot holds old) task new.wanted (spot holds new)
  pub wanted : EndsWanted old.wanted old.pending feds new.wanted
  pub last : (some : List Fed) (sample : Sample) → feds ≡ some ++ fed.Sample sample ∷ [] → new.halt ≡ None → Handled (fixed old) (spot holds old) some (spot_before holds new)
  pub none : feds ≡ [] → new.halt ≡ None → new ≡ old
  pub stays : (halt : Halt) → old.halt ≡ Some halt → (feds ≡ []) × (new.halt ≡ Some halt)

-- From the one feed to the other, in one part, these were handed in, and the last may be put back where it is a sample.
abbrev pub Hands : {S K : Type 0} {tells : source.Ghosts S} → sink.Ghosts K → LineFeed S K tells → List Fed → LineFeed S K tells → Type 0
Hands holds old feds new = Serves holds old feds new × InOnePart holds old feds new

-- This was handed in last, and it was not asked since: of a flush its source was not told.
abbrev pub Waits : {S K : Type 0} {tells : source.Ghosts S} → LineFeed S K tells → Fed → Type 0
Waits feed (fed.Sample sample) = (feed.halt ≡ None) × (feed.flushed ≡ None)
Waits feed fed.Flush = (feed.halt ≡ None) × (feed.flushed ≡ Some feed.count)
Waits feed fed.End = ⊥

-- nothing more comes of it
pub record Halts {S K : Type 0} {tells : source.Ghosts S} (feed : LineFeed S K tells) : Type 0 where
  pub halt : Halt
  pub halt_is : feed.halt ≡ Some halt

-- From a feed that one part asks for no more to the one that the next asks. A sample that it handed in last, and that was not done, is put back;
-- one that was called off goes on; and one that has ended stays. None is told of anything.
abbrev pub ResumesFrom : {S K : Type 0} {tells : source.Ghosts S} → sink.Ghosts K → Option Halt → LineFeed S K tells → LineFeed S K tells → Type 0
ResumesFrom {S} {K} {tells} holds None old new =
    (new.halt ≡ None) × (new.flushed ≡ old.flushed) × ((first : LineFeed S K tells) (some : List Fed) (sample : Sample) → Hands holds first (some ++ fed.Sample sample ∷ []) old → Serves holds first some new)
    × (fixed new ≡ fixed old) × (spot holds new ≡ spot_before holds old)
ResumesFrom {S} {K} {tells} holds (Some Called) old new =
    (new.halt ≡ None) × (new.flushed ≡ old.flushed) × ((first : LineFeed S K tells) (feds : List Fed) → Serves holds first feds old → Serves holds first feds new)
ResumesFrom holds (Some halt) old new = new ≡ old

abbrev pub Resumes : {S K : Type 0} {tells : source.Ghosts S} → sink.Ghosts K → LineFeed S K tells → LineFeed S K tells → Type 0
Resumes holds old new = ResumesFrom holds old.halt old new

-- a feed that goes on, and whose source was told of each flush
pub record IsAsked {S K : Type 0} {tells : source.Ghosts S} (feed : LineFeed S K tells) : Type 0 where
  pub told : feed.flushed ≡ None
  pub running : feed.halt ≡ None

-- It went on by one step, and handed in this, which is what comes next, or nothing. Behind a sample it can go back to where it stood.
abbrev pub Goes : {S K : Type 0} {tells : source.Ghosts S} → sink.Ghosts K → LineFeed S K tells → Option Fed → LineFeed S K tells → Type 0
Goes holds old None new =
    Serves holds old [] new × IsAsked new × (SaysJust (fixed old) (spot holds old) [] (spot holds new) ⊎ MayRead (fixed old) (spot holds old))
    × EndsWanted old.wanted old.pending [] new.wanted
Goes holds old (Some (fed.Sample sample)) new =
    Serves holds old (fed.Sample sample ∷ []) new × Waits new (fed.Sample sample) × Handled (fixed old) (spot holds old) [] (spot_before holds new)
    × ComesNext (fixed old) (spot holds old) (fed.Sample sample) new.wanted (spot holds new) × EndsWanted old.wanted old.pending (fed.Sample sample ∷ []) new.wanted
Goes holds old (Some fed.Flush) new =
    Serves holds old (fed.Flush ∷ []) new × Waits new fed.Flush × ComesNext (fixed old) (spot holds old) fed.Flush new.wanted (spot holds new)
    × EndsWanted old.wanted old.pending (fed.Flush ∷ []) new.wanted
Goes holds old (Some fed.End) new = Serves holds old [] new × Halts new × EndsWanted old.wanted old.pending [] new.wanted

-- a feed of this source over this input, of which nothing was taken
pub record IsFresh {S K : Type 0} {tells : source.Ghosts S} (holds : sink.Ghosts K) (rules : LineRules) (number : ℕ) (input : S) (told : K) (feed : LineFeed S K tells) : Type 0 where
  pub fixed_is : fixed feed ≡ record { rules = rules_of rules; number = number; first_faults = tells.faults input }
  pub spot_is : spot holds feed ≡ record {
    input = source_state tells input;
    unread = nothing;
    pending = false;
    over = false;
    steps = 0;
    bad = 0;
    count = 0;
    flushed = None;
    deaf = false;
    told = sink_state holds told;
  }
  pub running : feed.halt ≡ None
  pub calm : feed.wanted ≡ false

-- How far a feed of lines has come.
use Rattle.std.specs.Prelude.{ℕ, ◌-◌, Bool, Option, Some, None}
use Rattle.mdf_port.specs.State.{SinkState, SourceState, sink_state, source_state}
use Rattle.mdf_port.specs.declared.source.Source as source
use Rattle.mdf_port.specs.declared.sink.Sink as sink
use Rattle.acq_lines.specs.Lines.{Unread}
use Rattle.acq_lines.specs.Source.{unpassed, unread}
use Rattle.acq_lines.specs.Rules.{Rules, rules_of}
use Rattle.acq_lines.specs.declared.feed.LineFeed.{LineFeed}

-- what never changes: the rules and the number of its source, and how often its input had failed when it was made
pub record Fixed : Type 0 where
  pub rules : Rules
  pub number : ℕ
  pub first_faults : ℕ

-- its input, and what was read of it and not handled; whether a sample was handed in behind the last flush; whether a line ended it; how much was
-- handled and handed in, at most; how many lines were bad; how many samples were handed in; the number of them before the flush that was handed in
-- last, where it was not told yet; what it tells, and whether that failed
pub record Spot : Type 0 where
  pub input : SourceState
  pub unread : Unread
  pub pending : Bool
  pub over : Bool
  pub steps : ℕ
  pub bad : ℕ
  pub count : ℕ
  pub flushed : Option ℕ
  pub deaf : Bool
  pub told : SinkState

abbrev pub fixed : {S K : Type 0} {tells : source.Ghosts S} → LineFeed S K tells → Fixed
fixed feed = record { rules = rules_of feed.rules; number = feed.number; first_faults = feed.first_faults }

-- the spot before the last step, which was over a sample's line
abbrev pub before : Option Bool → Unread → Spot → Spot
before None unread spot = spot
before (Some pending) unread spot = record spot { unread = unread; pending = pending; steps = spot.steps - 1; count = spot.count - 1 }

-- In a clause of code that is generic in K: Sink it is `spot K.Sink feed`
abbrev pub spot : {S K : Type 0} {tells : source.Ghosts S} → sink.Ghosts K → LineFeed S K tells → Spot
spot {S} {K} {tells} holds feed = record {
  input = source_state tells feed.lines.source;
  unread = unread feed.lines;
  pending = feed.pending;
  over = feed.over;
  steps = feed.steps;
  bad = feed.bad;
  count = feed.count;
  flushed = feed.flushed;
  deaf = feed.deaf;
  told = sink_state holds feed.told;
}

-- Where it stood before the line of the sample that it handed in last, as long as that can be put back; else where it stands. A sample before
-- that one may have no flush behind it.
abbrev pub spot_before : {S K : Type 0} {tells : source.Ghosts S} → sink.Ghosts K → LineFeed S K tells → Spot
spot_before holds feed = before feed.pending_before (unpassed feed.lines) (spot holds feed)

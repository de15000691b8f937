-- All that a source tells, and all that a sink tells, each as one record: contracts of layers above them then take one
-- argument for it, and name no type of a source or a sink.
use Rattle.std.specs.Prelude.{ℕ, List, Option}
use Rattle.mdf_port.specs.declared.source.Source as source
use Rattle.mdf_port.specs.declared.sink.Sink as sink

-- the bytes that are left, where they are known, and how often it has failed
pub record SourceState : Type 0 where
  pub left : Option (List ℕ)
  pub faults : ℕ

-- the bytes that it holds, where they are known, and how often it has failed
pub record SinkState : Type 0 where
  pub held : Option (List ℕ)
  pub faults : ℕ

-- what this source tells. In a clause of code that is generic in S: Source it is `source_state S.Source s`
abbrev pub source_state : {S : Type 0} → source.Ghosts S → S → SourceState
source_state tells s = record { left = tells.left s; faults = tells.faults s }

-- what this sink tells. In a clause of code that is generic in K: Sink it is `sink_state K.Sink k`
abbrev pub sink_state : {K : Type 0} → sink.Ghosts K → K → SinkState
sink_state tells k = record { held = tells.held k; faults = tells.faults k }

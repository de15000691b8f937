-- What a source of a log tells: its input, and where it is told how much is durable.
use Rattle.std.specs.Prelude.{List, map}
use Rattle.mdf_port.specs.State.{SinkState, SourceState, sink_state, source_state}
use Rattle.mdf_port.specs.declared.source.Source as source
use Rattle.mdf_port.specs.declared.sink.Sink as sink
use Rattle.mdf_log.specs.declared.tap.Tap.{Tap}

pub record TapState : Type 0 where
  pub input : SourceState
  pub told : SinkState

-- In a clause of code that is generic in S: Source and K: Sink it is `tap_states S.Source K.Sink taps.items`
abbrev pub tap_states : {S K : Type 0} → source.Ghosts S → sink.Ghosts K → List (Tap S K) → List TapState
tap_states {S} {K} inputs sinks taps = map (λ (tap : Tap S K). record { input = source_state inputs tap.input; told = sink_state sinks tap.told }) taps

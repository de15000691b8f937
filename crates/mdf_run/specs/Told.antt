-- What a run was given and what it left, as each part tells it before and after.
use Rattle.std.specs.Prelude.{ℕ, Option}
use Rattle.mdf_port.specs.declared.source.Source.{Ghosts as SourceOf}
use Rattle.mdf_port.specs.declared.sink.Sink.{Ghosts as SinkOf}
use Rattle.mdf_port.specs.State.{SinkState, SourceState, sink_state, source_state}
use Rattle.mdf_disk.specs.State.{DiskState, state_of}
use Rattle.book_owned.specs.Members.{DiskOf}
use Rattle.mdf_record.specs.Record.{Outcome, outcome}
use Rattle.mdf_make.specs.declared.blamed.Input.{Input}
use Rattle.mdf_run.specs.declared.finished.Finished.{Finished}

pub record Told : Type 0 where
  pub now : ℕ
  pub source : SourceState
  pub source' : SourceState
  pub sink : SinkState
  pub sink' : SinkState
  pub first : DiskState
  pub first' : DiskState
  pub second : DiskState
  pub second' : DiskState
  pub out : DiskState
  pub left : Outcome
  pub status : ℕ
  pub blamed : Option Input

-- that of a run at a time in ns. In a clause of `run` the first five arguments are `S.Source K.Sink A.Disk B.Disk C.Disk`
abbrev pub told : {S K A B C : Type 0} → SourceOf S → SinkOf K → DiskOf A → DiskOf B → DiskOf C → ℕ → S → S → K → K → A → B → B → C → Finished A C → Told
told of_source of_sink of_first of_second of_out now source source' sink sink' first second second' out result = record {
  now = now;
  source = source_state of_source source;
  source' = source_state of_source source';
  sink = sink_state of_sink sink;
  sink' = sink_state of_sink sink';
  first = state_of of_first first;
  first' = state_of of_first result.first;
  second = state_of of_second second;
  second' = state_of of_second second';
  out = state_of of_out out;
  left = outcome of_out result.out result.history.items result.marks.items;
  status = result.status;
  blamed = result.blamed;
}

use Rattle.std.proofs.Common.{◌≤◌, take}
use Rattle.std.specs.Io.KnownBytes.{Appends}
use Rattle.mdf_log.specs.Report.{source_text}
use Rattle.mdf_command.specs.Texts.{numbered}
use Rattle.mdf_log.proofs.text.give_sources.Given as goal

-- the lines so far were given
abbrev pub invariant-loop-source : goal.invariant-loop-source
invariant-loop-source g l = record {
  given : Appends (g.K.Sink.held l.initial.sink) (g.K.Sink.held l.sink) (numbered source_text 0 (take l.source l.sources));
  later : g.K.Sink.faults l.initial.sink ≤ g.K.Sink.faults l.sink;
}

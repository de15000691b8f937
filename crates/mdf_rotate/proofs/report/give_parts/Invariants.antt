use Rattle.std.proofs.Common.{◌≤◌, take}
use Rattle.std.specs.Io.KnownBytes.{Appends}
use Rattle.mdf_command.specs.Texts.{numbered}
use Rattle.mdf_rotate.proofs.Lines.{part_text}
use Rattle.mdf_rotate.proofs.report.give_parts.Given as goal

-- the lines so far were given
abbrev pub invariant-loop-number : goal.invariant-loop-number
invariant-loop-number g l = record {
  given : Appends (g.K.Sink.held l.initial.sink) (g.K.Sink.held l.sink) (numbered part_text 0 (take l.number l.parts));
  later : g.K.Sink.faults l.initial.sink ≤ g.K.Sink.faults l.sink;
}

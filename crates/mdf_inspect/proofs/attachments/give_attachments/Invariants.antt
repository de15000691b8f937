use Rattle.std.proofs.Common.{◌≤◌, take}
use Rattle.std.specs.Io.KnownBytes.{Appends}
use Rattle.mdf_command.specs.Texts.{numbered}
use Rattle.mdf_inspect.specs.Attachments.{attachment_line}
use Rattle.mdf_inspect.proofs.attachments.give_attachments.Given as goal

-- the lines so far were given
abbrev pub invariant-loop-i : goal.invariant-loop-i
invariant-loop-i g l = record {
  given : Appends (g.K.Sink.held l.initial.sink) (g.K.Sink.held l.sink) (numbered attachment_line 0 (take l.i l.rows));
  later : g.K.Sink.faults l.initial.sink ≤ g.K.Sink.faults l.sink;
}

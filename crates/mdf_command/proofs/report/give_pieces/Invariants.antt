use Rattle.std.proofs.Common.{◌≤◌, take}
use Rattle.std.specs.Io.KnownBytes.{Appends}
use Rattle.mdf_command.specs.Texts.{pieces_text}
use Rattle.mdf_command.proofs.report.give_pieces.Given as goal

-- the parts so far were given
abbrev pub invariant-loop-piece : goal.invariant-loop-piece
invariant-loop-piece g l = record {
  given : Appends (g.K.Sink.held l.initial.sink) (g.K.Sink.held l.sink) (pieces_text (take l.piece-index l.pieces));
  later : g.K.Sink.faults l.initial.sink ≤ g.K.Sink.faults l.sink;
}

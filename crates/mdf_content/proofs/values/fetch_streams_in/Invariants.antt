use Rattle.std.proofs.Common.{◌≡◌, ◌≤◌, ℕ, List, Some, map, take}
use Rattle.mdf_stream.specs.Parts.{stream_of}
use Rattle.mdf_content.proofs.values.fetch_streams_in.Given as goal

abbrev pub invariant-loop-view : goal.invariant-loop-view
invariant-loop-view g l = record {
  streams : (f : List ℕ) → g.P.Span.bytes l.initial.span ≡ Some f → l.streams ≡ map (stream_of f) (take l.view-index l.views);
  same : g.P.Span.bytes l.span ≡ g.P.Span.bytes l.initial.span;
  size : g.P.Span.size l.span ≡ g.P.Span.size l.initial.span;
  later : g.P.Span.faults l.initial.span ≤ g.P.Span.faults l.span;
}

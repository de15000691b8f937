use Rattle.std.proofs.Common.{◌≡◌, ◌+◌, ◌≤◌, ℕ, List, Some, drop}
use Rattle.mdf_stream.specs.Parts.{stream_of}
use Rattle.mdf_session.specs.Counted.{values_total}
use Rattle.mdf_session.proofs.counted.values_total_in.Given as goal

abbrev pub invariant-loop-row : goal.invariant-loop-row
invariant-loop-row g l = record {
  total : (f : List ℕ) → g.P.Span.bytes l.initial.span ≡ Some f
      → l.total + values_total (stream_of f l.view) (drop l.row l.places) ≡ values_total (stream_of f l.view) l.places;
  same : g.P.Span.bytes l.span ≡ g.P.Span.bytes l.initial.span;
  size : g.P.Span.size l.span ≡ g.P.Span.size l.initial.span;
  later : g.P.Span.faults l.initial.span ≤ g.P.Span.faults l.span;
}

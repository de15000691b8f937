use Rattle.std.proofs.Common.{◌≡◌, ◌≤◌, ◌++◌, ℕ, List, Some, length, drop}
use Rattle.mdf_stream.specs.Parts.{stream_of}
use Rattle.mdf_session.specs.Counted.{totals_from}
use Rattle.mdf_session.proofs.counted.totals_in.Given as goal

abbrev pub invariant-loop-k : goal.invariant-loop-k
invariant-loop-k g l = record {
  totals : (f : List ℕ) → g.P.Span.bytes l.initial.span ≡ Some f
      → l.totals ++ totals_from (stream_of f l.view) l.lists l.k (drop l.k l.groups) ≡ totals_from (stream_of f l.view) l.lists 0 l.groups;
  count : length l.totals ≡ l.k;
  within : l.k ≤ length l.groups;
  same : g.P.Span.bytes l.span ≡ g.P.Span.bytes l.initial.span;
  size : g.P.Span.size l.span ≡ g.P.Span.size l.initial.span;
  later : g.P.Span.faults l.initial.span ≤ g.P.Span.faults l.span;
}

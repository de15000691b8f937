use Rattle.std.proofs.Common.{◌≡◌, ◌≤◌, ℕ, List, take, Some}
use Rattle.mdf_layout.specs.Values.{sample_by, streams_before}
use Rattle.mdf_layout.proofs.reading.decode_in.Given as goal

-- the entries so far, and how many streams belong to their channels
abbrev pub invariant-loop-channel : goal.invariant-loop-channel
invariant-loop-channel g l = record {
  entries_are : (f : List ℕ) → g.P.Span.bytes l.initial.span ≡ Some f
      → sample_by (take l.channel l.rows) l.content l.inval (g.V.Values.finders l.values f) l.index ≡ Some l.entries.items;
  before : l.stream ≡ streams_before l.rows l.channel;
  few : l.stream ≤ l.channel;
  same : g.P.Span.bytes l.span ≡ g.P.Span.bytes l.initial.span;
  size : g.P.Span.size l.span ≡ g.P.Span.size l.initial.span;
  later : g.P.Span.faults l.initial.span ≤ g.P.Span.faults l.span;
}

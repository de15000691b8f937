use Rattle.std.proofs.Common.{◌≡◌, ◌≤◌, ◌-◌, ℕ, List, Some}
use Rattle.std.specs.Io.KnownBytes.{Appends}
use Rattle.tool_export.specs.Table.{sample_lines}
use Rattle.tool_export.proofs.give.give_samples.Given as goal

-- the lines so far were given
abbrev pub invariant-loop-index : goal.invariant-loop-index
invariant-loop-index g l = record {
  given : (f : List ℕ) → g.P.Span.bytes l.initial.span ≡ Some f → g.L.SampleList.are_of l.list f
      → Appends (g.K.Sink.held l.initial.sink) (g.K.Sink.held l.sink) (sample_lines (g.L.SampleList.sample l.list f) l.index);
  stays : g.K.Sink.faults l.sink ≡ g.K.Sink.faults l.initial.sink;
  within : l.index ≤ l.count;
  same : g.P.Span.bytes l.span ≡ g.P.Span.bytes l.initial.span;
  size : g.P.Span.size l.span ≡ g.P.Span.size l.initial.span;
  later : g.P.Span.faults l.initial.span ≤ g.P.Span.faults l.span;
}

abbrev pub decreases-loop-index : goal.decreases-loop-index
decreases-loop-index g l = l.count - l.index

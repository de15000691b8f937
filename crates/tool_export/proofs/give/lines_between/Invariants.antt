use Rattle.std.proofs.Common.{◌≡◌, ◌≤◌, ◌++◌, ℕ, List, Some}
use Rattle.tool_export.specs.Table.{sample_lines}
use Rattle.tool_export.proofs.give.lines_between.Given as goal

-- the lines so far
abbrev pub invariant-loop-index : goal.invariant-loop-index
invariant-loop-index g l = record {
  lines : (f : List ℕ) → g.P.Span.bytes l.initial.span ≡ Some f → g.L.SampleList.are_of l.list f
      → sample_lines (g.L.SampleList.sample l.list f) l.index
      ≡ sample_lines (g.L.SampleList.sample l.list f) l.from ++ l.lines.items;
  order : l.index ≤ l.to;
  same : g.P.Span.bytes l.span ≡ g.P.Span.bytes l.initial.span;
  size : g.P.Span.size l.span ≡ g.P.Span.size l.initial.span;
  later : g.P.Span.faults l.initial.span ≤ g.P.Span.faults l.span;
}

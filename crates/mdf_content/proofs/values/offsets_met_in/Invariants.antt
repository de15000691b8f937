use Rattle.std.proofs.Common.{◌≡◌, ◌-◌, ◌≤◌, ℕ, List, Some}
use Rattle.mdf_stream.specs.Parts.{stream_of}
use Rattle.mdf_content.specs.Values.{offset_in, offsets_met, records_of}
use Rattle.mdf_content.proofs.values.offsets_met_in.Given as goal

abbrev pub invariant-loop-row : goal.invariant-loop-row
invariant-loop-row g l = record {
  found : (f : List ℕ) → g.P.Span.bytes l.initial.span ≡ Some f
      → offsets_met (g.V.Met.meets l.values f) (offset_in (stream_of f l.view) (records_of l.records) l.channel) l.c l.row (l.records.count - l.row)
      ≡ offsets_met (g.V.Met.meets l.values f) (offset_in (stream_of f l.view) (records_of l.records) l.channel) l.c 0 l.records.count;
  same : g.P.Span.bytes l.span ≡ g.P.Span.bytes l.initial.span;
  size : g.P.Span.size l.span ≡ g.P.Span.size l.initial.span;
  later : g.P.Span.faults l.initial.span ≤ g.P.Span.faults l.span;
}

abbrev pub decreases-loop-row : goal.decreases-loop-row
decreases-loop-row g l = l.records.count - l.row

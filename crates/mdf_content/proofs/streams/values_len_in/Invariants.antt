use Rattle.std.proofs.Common.{◌≡◌, ◌-◌, ◌^◌, ◌≤◌, ℕ, List, Some, length, take}
use Rattle.std.specs.Prelude.{min, sum_by}
use Rattle.mdf_stream.specs.Parts.{stream_of, stream_size}
use Rattle.mdf_content.specs.Values.{value_size}
use Rattle.mdf_content.proofs.streams.values_len_in.Given as goal

abbrev pub invariant-loop-k : goal.invariant-loop-k
invariant-loop-k g l = record {
  total : (f : List ℕ) → g.P.Span.bytes l.initial.span ≡ Some f
      → l.total ≡ min (sum_by (value_size (stream_of f l.view) (stream_size l.view)) (take l.k l.places)) (2 ^ 64 - 1);
  within : l.k ≤ length l.places;
  same : g.P.Span.bytes l.span ≡ g.P.Span.bytes l.initial.span;
  size : g.P.Span.size l.span ≡ g.P.Span.size l.initial.span;
  later : g.P.Span.faults l.initial.span ≤ g.P.Span.faults l.span;
}

abbrev pub decreases-loop-k : goal.decreases-loop-k
decreases-loop-k g l = length l.places - l.k

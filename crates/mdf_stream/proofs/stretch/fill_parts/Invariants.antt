use Rattle.std.proofs.Common.{◌≡◌, ◌-◌, ◌≤◌, ◌++◌, ℕ, List, Some, length, drop}
use Rattle.mdf_format.specs.Number.{bytes_at}
use Rattle.mdf_stream.specs.Parts.{stream_of}
use Rattle.mdf_stream.specs.Stretch.{parts_of}
use Rattle.mdf_stream.proofs.stretch.fill_parts.Given as goal

abbrev pub invariant-loop-done : goal.invariant-loop-done
invariant-loop-done g l = record {
  within : l.done ≤ length l.buf;
  filled : (f : List ℕ) → g.P.Span.bytes l.initial.span ≡ Some f
      → l.buf ≡ bytes_at l.done (stream_of f (parts_of l.items)) l.at ++ drop l.done l.initial.buf;
  same : g.P.Span.bytes l.span ≡ g.P.Span.bytes l.initial.span;
  size : g.P.Span.size l.span ≡ g.P.Span.size l.initial.span;
  later : g.P.Span.faults l.initial.span ≤ g.P.Span.faults l.span;
}

abbrev pub decreases-loop-done : goal.decreases-loop-done
decreases-loop-done g l = length l.buf - l.done

use Rattle.std.proofs.Common.{◌≡◌, ◌*◌, ◌-◌, ◌≤◌, ℕ, List, Some, take}
use Rattle.mdf_stream.specs.Parts.{stream_of}
use Rattle.mdf_content.specs.Contents.{content_of}
use Rattle.mdf_content.proofs.contents.put_records.Given as goal

abbrev pub invariant-loop-row : goal.invariant-loop-row
invariant-loop-row g l = record {
  put : (f : List ℕ) → g.P.Span.bytes l.initial.span ≡ Some f → take l.done l.content ≡ content_of (stream_of f l.view) l.size (take l.row l.places);
  within : l.row ≤ l.count;
  done : l.done ≡ l.row * l.size;
  same : g.P.Span.bytes l.span ≡ g.P.Span.bytes l.initial.span;
  told : g.P.Span.size l.span ≡ g.P.Span.size l.initial.span;
  later : g.P.Span.faults l.initial.span ≤ g.P.Span.faults l.span;
}

abbrev pub decreases-loop-row : goal.decreases-loop-row
decreases-loop-row g l = l.count - l.row

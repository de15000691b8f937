use Rattle.std.proofs.Common.{◌≡◌, ◌-◌, ◌≤◌, ℕ, List, Some, length, take}
use Rattle.mdf_stream.specs.Parts.{ArePartsInside}
use Rattle.mdf_content.specs.Values.{values_at}
use Rattle.mdf_content.proofs.values.values_in.Given as goal

abbrev pub invariant-loop-k : goal.invariant-loop-k
invariant-loop-k g l = record {
  values : (f : List ℕ) → g.P.Span.bytes l.initial.span ≡ Some f → l.values ≡ values_at f l.view (take l.k l.places);
  inside : ArePartsInside (g.P.Span.size l.initial.span) l.values;
  within : l.k ≤ length l.places;
  same : g.P.Span.bytes l.span ≡ g.P.Span.bytes l.initial.span;
  size : g.P.Span.size l.span ≡ g.P.Span.size l.initial.span;
  later : g.P.Span.faults l.initial.span ≤ g.P.Span.faults l.span;
}

abbrev pub decreases-loop-k : goal.decreases-loop-k
decreases-loop-k g l = length l.places - l.k

use Rattle.std.proofs.Common.{◌≡◌, ◌-◌, ◌≤◌, ℕ, List, Some, length, take}
use Rattle.std.specs.List.{flat_map}
use Rattle.mdf_content.specs.Values.{value_there}
use Rattle.mdf_content.proofs.streams.put_values.Given as goal

abbrev pub invariant-loop-k : goal.invariant-loop-k
invariant-loop-k g l = record {
  put : (f : List ℕ) → g.P.Span.bytes l.initial.span ≡ Some f → take l.done l.bytes ≡ flat_map (value_there f l.view) (take l.k l.places);
  within : l.k ≤ length l.places;
  done : l.done ≤ length l.bytes;
  same : g.P.Span.bytes l.span ≡ g.P.Span.bytes l.initial.span;
  told : g.P.Span.size l.span ≡ g.P.Span.size l.initial.span;
  later : g.P.Span.faults l.initial.span ≤ g.P.Span.faults l.span;
}

abbrev pub decreases-loop-k : goal.decreases-loop-k
decreases-loop-k g l = length l.places - l.k

use Rattle.std.proofs.Common.{◌-◌, ◌≡◌, ◌+◌, ◌≤◌, ℕ, List, Some}
use Rattle.mdf_group.specs.Link.{links_named}
use Rattle.mdf_group.proofs.extra.extra_in.Given as goal

abbrev pub invariant-loop-k : goal.invariant-loop-k
invariant-loop-k g l = record {
  few : l.extra + 8 ≤ l.k;
  within : l.k ≤ l.block.links;
  found : (f : List ℕ) → g.P.Span.bytes l.initial.span ≡ Some f
      → l.extra + links_named f l.block.at l.k (l.block.links - l.k) ≡ links_named f l.block.at 8 (l.block.links - 8);
  same : g.P.Span.bytes l.span ≡ g.P.Span.bytes l.initial.span;
  size : g.P.Span.size l.span ≡ g.P.Span.size l.initial.span;
  later : g.P.Span.faults l.initial.span ≤ g.P.Span.faults l.span;
}

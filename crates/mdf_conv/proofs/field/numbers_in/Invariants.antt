use Rattle.std.proofs.Common.{◌-◌, ◌≡◌, ◌+◌, ◌*◌, ◌≤◌, ◌++◌, ℕ, List, Some}
use Rattle.mdf_conv.specs.Conv.{numbers_at}
use Rattle.mdf_conv.proofs.field.numbers_in.Given as goal

abbrev pub invariant-loop-k : goal.invariant-loop-k
invariant-loop-k g l = record {
  within : l.k ≤ l.count;
  found : (f : List ℕ) → g.P.Span.bytes l.initial.span ≡ Some f
      → l.numbers ++ numbers_at f (l.start + 8 * l.k) (l.count - l.k) ≡ numbers_at f l.start l.count;
  same : g.P.Span.bytes l.span ≡ g.P.Span.bytes l.initial.span;
  size : g.P.Span.size l.span ≡ g.P.Span.size l.initial.span;
  later : g.P.Span.faults l.initial.span ≤ g.P.Span.faults l.span;
}

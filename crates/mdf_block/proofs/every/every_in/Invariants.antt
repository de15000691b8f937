use Rattle.std.proofs.Common.{◌≡◌, ◌-◌, ◌≤◌, ℕ, List, Some, length, drop}
use Rattle.std.specs.List.{AllByRecursion}
use Rattle.mdf_block.proofs.Eachs.{with_front}
use Rattle.mdf_block.specs.Every.{every}
use Rattle.mdf_block.proofs.every.every_in.Given as goal

abbrev pub invariant-loop-k : goal.invariant-loop-k
invariant-loop-k g l = record {
  found : (f : List ℕ) → g.P.Span.bytes l.initial.span ≡ Some f
      → with_front l.all (every (g.V.Visit.read l.visit f) l.k (drop l.k l.items) l.state) ≡ every (g.V.Visit.read l.visit f) 0 l.items l.fn.start;
  given : (f : List ℕ) → g.P.Span.bytes l.initial.span ≡ Some f → AllByRecursion (g.V.Visit.gives l.visit) l.all;
  kept : AllByRecursion (g.V.Visit.keeps l.visit (g.P.Span.size l.initial.span)) l.all;
  same : g.P.Span.bytes l.span ≡ g.P.Span.bytes l.initial.span;
  size : g.P.Span.size l.span ≡ g.P.Span.size l.initial.span;
  later : g.P.Span.faults l.initial.span ≤ g.P.Span.faults l.span;
}

abbrev pub decreases-loop-k : goal.decreases-loop-k
decreases-loop-k g l = length l.items - l.k

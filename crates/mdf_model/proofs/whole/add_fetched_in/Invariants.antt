use Rattle.std.proofs.Common.{◌≡◌, ◌≤◌, ◌++◌, ℕ, List, Some, length, map, reverse}
use Rattle.std.specs.List.{AllByRecursion}
use Rattle.mdf_content.specs.Found.{IsFoundInside, data_fetched}
use Rattle.mdf_model.proofs.whole.add_fetched_in.Given as goal

abbrev pub invariant-found : goal.invariant-found
invariant-found g l = record {
  fetched : (f : List ℕ) → g.P.Span.bytes l.initial.span ≡ Some f
      → l.all ++ map (data_fetched f) (reverse l.found.items) ≡ l.initial.all ++ map (data_fetched f) (reverse l.fn.found.items);
  inside : AllByRecursion (IsFoundInside (g.P.Span.size l.initial.span)) l.found.items;
  same : g.P.Span.bytes l.span ≡ g.P.Span.bytes l.initial.span;
  size : g.P.Span.size l.span ≡ g.P.Span.size l.initial.span;
  later : g.P.Span.faults l.initial.span ≤ g.P.Span.faults l.span;
}

abbrev pub decreases-found : goal.decreases-found
decreases-found g l = length l.found.items

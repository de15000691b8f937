use Rattle.std.proofs.Common.{◌≡◌, ◌≤◌, ◌++◌, ℕ, List, Some, length, map, reverse}
use Rattle.std.specs.List.{AllByRecursion}
use Rattle.mdf_content.specs.Found.{IsGroupInside, fetched}
use Rattle.mdf_content.proofs.contents.add_fetched_in.Given as goal

abbrev pub invariant-groups : goal.invariant-groups
invariant-groups g l = record {
  fetched : (f : List ℕ) → g.P.Span.bytes l.initial.span ≡ Some f
      → l.all ++ map (fetched f l.view l.lists) (reverse l.groups.items) ≡ l.initial.all ++ map (fetched f l.view l.lists) (reverse l.fn.groups.items);
  inside : AllByRecursion (IsGroupInside (g.P.Span.size l.initial.span) l.view l.lists) l.groups.items;
  same : g.P.Span.bytes l.span ≡ g.P.Span.bytes l.initial.span;
  size : g.P.Span.size l.span ≡ g.P.Span.size l.initial.span;
  later : g.P.Span.faults l.initial.span ≤ g.P.Span.faults l.span;
}

abbrev pub decreases-groups : goal.decreases-groups
decreases-groups g l = length l.groups.items

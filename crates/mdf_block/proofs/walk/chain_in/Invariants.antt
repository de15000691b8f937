use Rattle.std.proofs.Common.{◌≡◌, ◌≤◌, ℕ, List, Some}
use Rattle.std.specs.List.{AllByRecursion}
use Rattle.mdf_block.specs.Chain.{chain}
use Rattle.mdf_block.proofs.Chains.{with_front}
use Rattle.mdf_block.proofs.walk.chain_in.Given as goal

abbrev pub invariant-loop-at : goal.invariant-loop-at
invariant-loop-at g l = record {
  found : (f : List ℕ) → g.P.Span.bytes l.initial.span ≡ Some f
      → with_front l.rows (chain (g.W.Walk.step l.walk f) (g.W.Walk.full l.walk f) l.room l.at l.left) ≡ chain (g.W.Walk.step l.walk f) (g.W.Walk.full l.walk f) l.most l.first l.fn.start;
  given : AllByRecursion (g.W.Walk.gives l.walk (g.P.Span.size l.initial.span)) l.rows;
  same : g.P.Span.bytes l.span ≡ g.P.Span.bytes l.initial.span;
  size : g.P.Span.size l.span ≡ g.P.Span.size l.initial.span;
  later : g.P.Span.faults l.initial.span ≤ g.P.Span.faults l.span;
}

abbrev pub decreases-loop-at : goal.decreases-loop-at
decreases-loop-at g l = l.room

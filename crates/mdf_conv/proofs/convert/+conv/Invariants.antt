use Rattle.std.proofs.Common.{◌-◌, ◌≡◌, ◌+◌, ◌*◌, ◌≤◌, ℕ, List, Some}
use Rattle.mdf_block.specs.Each.{each}
use Rattle.mdf_block.proofs.Eachs.{with_front}
use Rattle.mdf_conv.specs.Conv.{item_by, conv}
use Rattle.mdf_conv.proofs.convert.+conv.Given as goal

abbrev pub decreases-level_in : goal.decreases-level_in
decreases-level_in g l = 5 * l.levels

abbrev pub decreases-ref_in : goal.decreases-ref_in
decreases-ref_in g l = 5 * l.levels + 1

abbrev pub decreases-refs_in : goal.decreases-refs_in
decreases-refs_in g l = 5 * l.levels + 2

abbrev pub decreases-held_in : goal.decreases-held_in
decreases-held_in g l = 5 * l.levels + 3

abbrev pub decreases-whole_in : goal.decreases-whole_in
decreases-whole_in g l = 5 * l.levels + 4

abbrev pub invariant-refs_in-loop-k : goal.invariant-refs_in-loop-k
invariant-refs_in-loop-k g l = record {
  found : (f : List ℕ) → g.P.Span.bytes l.initial.span ≡ Some f
      → with_front l.refs (each (item_by (conv l.levels f) f l.block.at) l.k (l.block.links - l.k) l.left)
      ≡ each (item_by (conv l.levels f) f l.block.at) 4 (l.block.links - 4) l.fn.budget;
  same : g.P.Span.bytes l.span ≡ g.P.Span.bytes l.initial.span;
  size : g.P.Span.size l.span ≡ g.P.Span.size l.initial.span;
  later : g.P.Span.faults l.initial.span ≤ g.P.Span.faults l.span;
}

use Rattle.std.proofs.Common.{◌-◌, ◌≡◌, ◌≤◌, ℕ, List, Some}
use Rattle.mdf_block.specs.Each.{each}
use Rattle.mdf_block.proofs.Eachs.{with_front}
use Rattle.mdf_stream.specs.Parts.{ArePartsInside}
use Rattle.mdf_stream.specs.Link.{named_block}
use Rattle.mdf_stream.proofs.link.named_in.Given as goal

abbrev pub invariant-loop-k : goal.invariant-loop-k
invariant-loop-k g l = record {
  found : (f : List ℕ) → g.P.Span.bytes l.initial.span ≡ Some f
      → with_front l.parts (each (named_block f l.want l.block.at) l.k (l.block.links - l.k) l.left)
      ≡ each (named_block f l.want l.block.at) 1 (l.block.links - 1) l.fn.most;
  inside : ArePartsInside (g.P.Span.size l.initial.span) l.parts;
  same : g.P.Span.bytes l.span ≡ g.P.Span.bytes l.initial.span;
  size : g.P.Span.size l.span ≡ g.P.Span.size l.initial.span;
  later : g.P.Span.faults l.initial.span ≤ g.P.Span.faults l.span;
}

use Rattle.std.proofs.Common.{◌≡◌, ◌+◌, ◌-◌, ◌≤◌, ℕ, List, Some, drop}
use Rattle.std.specs.List.{position_or_len}
use Rattle.mdf_format.specs.Number.{bytes_at}
use Rattle.mdf_block.specs.Text.{is_zero}
use Rattle.mdf_block.proofs.text.text_len_in.Given as goal

abbrev pub invariant-loop-done : goal.invariant-loop-done
invariant-loop-done g l = record {
  within : l.done ≤ l.len;
  left : (f : List ℕ) → g.P.Span.bytes l.initial.span ≡ Some f
      → position_or_len is_zero (bytes_at l.len f l.start) ≡ l.done + position_or_len is_zero (drop l.done (bytes_at l.len f l.start));
  same : g.P.Span.bytes l.span ≡ g.P.Span.bytes l.initial.span;
  size : g.P.Span.size l.span ≡ g.P.Span.size l.initial.span;
  later : g.P.Span.faults l.initial.span ≤ g.P.Span.faults l.span;
}

abbrev pub decreases-loop-done : goal.decreases-loop-done
decreases-loop-done g l = l.len - l.done

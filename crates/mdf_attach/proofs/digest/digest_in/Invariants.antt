use Rattle.std.proofs.Common.{◌≡◌, ◌-◌, ◌≤◌, ℕ, List, Some}
use Rattle.md5.specs.Md5.{Holds}
use Rattle.mdf_format.specs.Number.{bytes_at}
use Rattle.mdf_attach.proofs.digest.digest_in.Given as goal

-- the bytes so far were taken
abbrev pub invariant-loop-done : goal.invariant-loop-done
invariant-loop-done g l = record {
  within : l.done ≤ l.len;
  taken : (f : List ℕ) → g.P.Span.bytes l.initial.span ≡ Some f → Holds l.hasher (bytes_at l.done f l.at);
  same : g.P.Span.bytes l.span ≡ g.P.Span.bytes l.initial.span;
  size : g.P.Span.size l.span ≡ g.P.Span.size l.initial.span;
  later : g.P.Span.faults l.initial.span ≤ g.P.Span.faults l.span;
}

abbrev pub decreases-loop-done : goal.decreases-loop-done
decreases-loop-done g l = l.len - l.done

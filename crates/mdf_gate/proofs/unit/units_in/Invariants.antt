use Rattle.std.proofs.Common.{◌≡◌, ◌-◌, ◌≤◌, ℕ, List, Some, length}
use Rattle.mdf_stream.specs.Parts.{AreBehind, ArePartsInside, stream_size}
use Rattle.mdf_gate.specs.Units.{opened_from}
use Rattle.mdf_gate.proofs.Loops.{Opens}
use Rattle.mdf_gate.proofs.unit.units_in.Given as goal

abbrev pub invariant-loop-view : goal.invariant-loop-view
invariant-loop-view g l = record {
  found : (f : List ℕ) → g.P.Span.bytes l.initial.span ≡ Some f → Opens l.form f l.view l.place (opened_from l.form f (length f) l.first);
  inside : ArePartsInside (g.P.Span.size l.initial.span) l.view;
  behind : AreBehind 0 l.view;
  below : stream_size l.view ≤ l.place;
  same : g.P.Span.bytes l.span ≡ g.P.Span.bytes l.initial.span;
  size : g.P.Span.size l.span ≡ g.P.Span.size l.initial.span;
  later : g.P.Span.faults l.initial.span ≤ g.P.Span.faults l.span;
}

abbrev pub decreases-loop-view : goal.decreases-loop-view
decreases-loop-view g l = g.P.Span.size l.span - l.place

use Rattle.std.proofs.Common.{◌≡◌, ◌-◌, ◌≤◌, ℕ, List, Some, length}
use Rattle.mdf_stream.specs.Parts.{stream_of, stream_size}
use Rattle.mdf_data.specs.Places.{places, HaveRoom}
use Rattle.mdf_data.proofs.Kepts.{LeadsKept}
use Rattle.mdf_data.proofs.spread.places_in.Given as goal

abbrev pub invariant-records : goal.invariant-records
invariant-records g l = record {
  found : (f : List ℕ) → g.P.Span.bytes l.initial.span ≡ Some f
      → LeadsKept (stream_of f l.view) (stream_size l.view) l.id_size l.known l.counted l.lists.items l.at
      (places (stream_of f l.view) (stream_size l.view) l.id_size l.known);
  count : length l.lists.items ≡ length l.known;
  room : HaveRoom (stream_size l.view) l.known l.lists.items;
  within : l.at ≤ stream_size l.view;
  same : g.P.Span.bytes l.span ≡ g.P.Span.bytes l.initial.span;
  size : g.P.Span.size l.span ≡ g.P.Span.size l.initial.span;
  later : g.P.Span.faults l.initial.span ≤ g.P.Span.faults l.span;
}

abbrev pub decreases-records : goal.decreases-records
decreases-records g l = stream_size l.view - l.at

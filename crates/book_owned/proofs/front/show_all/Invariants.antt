use Rattle.std.proofs.Common.{◌≡◌, ◌-◌, ◌≤◌, length}
use Rattle.mdf_layout.specs.Chunked.{joined}
use Rattle.book_owned.specs.Shared.{IsShared}
use Rattle.book_owned.proofs.front.show_all.Given as goal

-- the view goes on through the chunks
abbrev pub invariant-loop : goal.invariant-loop
invariant-loop g l = record {
  shared : IsShared g.V.Shown l.view l.history.chunks;
  which : g.V.Shown.which l.view ≡ g.V.Shown.which l.initial.view;
  more : g.V.Shown.count l.initial.view ≤ g.V.Shown.count l.view;
}

abbrev pub decreases-loop : goal.decreases-loop
decreases-loop g l = length (joined l.history.chunks) - g.V.Shown.count l.view

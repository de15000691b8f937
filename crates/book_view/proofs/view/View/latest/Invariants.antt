use Rattle.std.proofs.Common.{◌≡◌, ◌≤◌, None, drop, length}
use Rattle.mdf_layout.specs.Chunked.{joined}
use Rattle.book_view.specs.Latest.{latest_of}
use Rattle.book_view.proofs.view.View.latest.Given as goal

-- no sample of the chunks from there on is of the group
abbrev pub invariant-loop-behind : goal.invariant-loop-behind
invariant-loop-behind l = record {
  within : l.behind ≤ length l.chunks;
  none : latest_of l.group (joined (drop l.behind l.chunks)) ≡ None;
}

abbrev pub decreases-loop-behind : goal.decreases-loop-behind
decreases-loop-behind l = l.behind

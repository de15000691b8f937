use Rattle.std.proofs.Common.{◌≡◌, ◌+◌, ◌≤◌, ◌++◌}
use Rattle.mdf_stream.specs.Parts.{stream_size}
use Rattle.mdf_stream.specs.Range.{parts_between}
use Rattle.mdf_content.proofs.values.add_range.Given as goal

abbrev pub invariant-loop-left : goal.invariant-loop-left
invariant-loop-left l = record {
  range : l.all ++ parts_between l.view l.at l.left ≡ l.initial.all ++ parts_between l.view l.place l.len;
  within : l.at + l.left ≤ stream_size l.view;
}

abbrev pub decreases-loop-left : goal.decreases-loop-left
decreases-loop-left l = l.left

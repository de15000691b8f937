use Rattle.std.proofs.Common.{◌≡◌, ◌+◌, ◌-◌, ◌++◌}
use Rattle.mdf_stream.specs.Stream.{links_from}
use Rattle.tool_complete.proofs.names.add_links.Given as goal

abbrev pub invariant-loop-k : goal.invariant-loop-k
invariant-loop-k l = record {
  listed : l.names ++ links_from l.bytes l.list.at (l.k + 1) (l.count - l.k) ≡ l.initial.names ++ links_from l.bytes l.list.at 1 l.count;
}

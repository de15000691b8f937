use Rattle.std.proofs.Common.{◌++◌}
use Rattle.mdf_stream.specs.Link.{most_blocks}
use Rattle.tool_complete.specs.Named.{listed_from}
use Rattle.tool_complete.proofs.Listed.{LeadsListed}
use Rattle.tool_complete.proofs.names.add_listed.Given as goal

abbrev pub invariant-loop-left : goal.invariant-loop-left
invariant-loop-left l = LeadsListed l.bytes l.names l.left l.at (l.initial.names ++ listed_from l.bytes most_blocks most_blocks l.link)

abbrev pub decreases-loop-left : goal.decreases-loop-left
decreases-loop-left l = l.left

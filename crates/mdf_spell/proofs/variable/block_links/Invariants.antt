use Rattle.std.proofs.Common.{◌≡◌, ◌++◌}
use Rattle.mdf_spell.specs.Recording.{block_links}
use Rattle.mdf_spell.proofs.variable.block_links.Given as goal

abbrev pub invariant-loop-left : goal.invariant-loop-left
invariant-loop-left l = l.links.items ++ block_links l.at l.left ≡ block_links l.n l.count

abbrev pub decreases-loop-left : goal.decreases-loop-left
decreases-loop-left l = l.left

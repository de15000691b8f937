use Rattle.std.proofs.Common.{◌≡◌, ◌-◌, length, drop}
use Rattle.mdf_content.specs.Contents.{are_said}
use Rattle.mdf_content.proofs.contents.are_said.Given as goal

abbrev pub invariant-loop-k : goal.invariant-loop-k
invariant-loop-k l = are_said l.lists l.k (drop l.k l.groups) ≡ are_said l.lists 0 l.groups

abbrev pub decreases-loop-k : goal.decreases-loop-k
decreases-loop-k l = length l.groups - l.k

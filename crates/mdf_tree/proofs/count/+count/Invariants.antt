use Rattle.std.proofs.Common.{◌≡◌, ◌+◌, ◌*◌, take}
use Rattle.std.specs.Prelude.{sum_by}
use Rattle.mdf_tree.specs.Count.{ref_count, conv_count}
use Rattle.mdf_tree.proofs.count.+count.Given as goal

abbrev pub decreases-conv_count : goal.decreases-conv_count
decreases-conv_count l = 3 * l.levels

abbrev pub decreases-ref_count : goal.decreases-ref_count
decreases-ref_count l = 3 * l.levels + 1

abbrev pub decreases-refs_count : goal.decreases-refs_count
decreases-refs_count l = 3 * l.levels + 2

abbrev pub invariant-refs_count-loop-found : goal.invariant-refs_count-loop-found
invariant-refs_count-loop-found l = l.count ≡ sum_by (ref_count (conv_count l.levels)) (take l.found-index l.refs)

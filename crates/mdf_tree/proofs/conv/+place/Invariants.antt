use Rattle.std.proofs.Common.{◌≡◌, ◌+◌, ◌*◌, ◌++◌, length, drop}
use Rattle.mdf_tree.specs.Conv.{refs_blocks, conv_blocks}
use Rattle.mdf_tree.proofs.conv.+place.Given as goal

abbrev pub decreases-place_conv : goal.decreases-place_conv
decreases-place_conv l = 4 * l.levels

abbrev pub decreases-place_ref : goal.decreases-place_ref
decreases-place_ref l = 4 * l.levels + 1

abbrev pub decreases-place_refs : goal.decreases-place_refs
decreases-place_refs l = 4 * l.levels + 2

abbrev pub decreases-place_whole : goal.decreases-place_whole
decreases-place_whole l = 4 * l.levels + 3

-- the blocks so far and those of what is left are all
abbrev pub invariant-place_refs-loop-found : goal.invariant-place_refs-loop-found
invariant-place_refs-loop-found l =
    l.draft ++ refs_blocks (conv_blocks l.levels) (length l.draft) (drop l.found-index l.refs)
    ≡ l.initial.draft ++ refs_blocks (conv_blocks l.levels) (length l.initial.draft) l.refs

use Rattle.std.proofs.Common.{◌≡◌, ◌++◌, drop}
use Rattle.mdf_tree.specs.Conv.{refs_links, conv_blocks}
use Rattle.mdf_tree.proofs.conv.push_ref_links.Given as goal

-- the links so far and those of what is left are all
abbrev pub invariant-loop-found : goal.invariant-loop-found
invariant-loop-found l =
    l.links.items ++ refs_links (conv_blocks l.levels) l.n (drop l.found-index l.refs)
    ≡ l.initial.links.items ++ refs_links (conv_blocks l.levels) l.first l.refs

use Rattle.std.proofs.Common.{◌≡◌, take}
use Rattle.mdf_stream.specs.Link.{joined}
use Rattle.mdf_stream.proofs.link.view_of.Given as goal

abbrev pub invariant-loop-list : goal.invariant-loop-list
invariant-loop-list l = l.view ≡ joined (take l.list-index l.lists)

use Rattle.std.proofs.Common.{◌≡◌, take}
use Rattle.mdf_tree.specs.Parts.{joined}
use Rattle.mdf_tree.proofs.number.joined.Given as goal

abbrev pub invariant-loop-part : goal.invariant-loop-part
invariant-loop-part l = l.bytes ≡ joined (take l.part-index l.parts)

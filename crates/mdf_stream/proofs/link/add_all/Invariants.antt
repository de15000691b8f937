use Rattle.std.proofs.Common.{◌≡◌, ◌++◌, take}
use Rattle.mdf_stream.proofs.link.add_all.Given as goal

abbrev pub invariant-loop-part : goal.invariant-loop-part
invariant-loop-part l = l.view ≡ l.initial.view ++ take l.part-index l.parts

use Rattle.std.proofs.Common.{◌≡◌, take}
use Rattle.mdf_layout.specs.Record.{history_size}
use Rattle.book_owned.proofs.front.size_of.Given as goal

abbrev pub invariant-loop-sample : goal.invariant-loop-sample
invariant-loop-sample l = l.size ≡ history_size l.shapes (take l.sample-index l.samples)

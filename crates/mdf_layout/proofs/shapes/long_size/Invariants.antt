use Rattle.std.proofs.Common.{◌≡◌, ◌+◌, drop}
use Rattle.mdf_layout.specs.Record.{long_size}
use Rattle.mdf_layout.proofs.shapes.long_size.Given as goal

-- the size so far, and that of the channels that are left
abbrev pub invariant-loop-channel : goal.invariant-loop-channel
invariant-loop-channel l = l.size + long_size (drop l.channel l.rows) (drop l.channel l.entries) ≡ long_size l.rows l.entries

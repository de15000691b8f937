use Rattle.mdf_layout.specs.Written.{AreFilled}
use Rattle.mdf_layout.proofs.shape.filled_bits.Given as goal

-- the bits that the channels so far fill
abbrev pub invariant-loop-channel : goal.invariant-loop-channel
invariant-loop-channel l = AreFilled l.rows l.end

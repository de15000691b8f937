use Rattle.std.proofs.Common.{arith}
use Rattle.mdf_block.proofs.Names.{none_of}
use Rattle.mdf_block.proofs.name.kind_of.Goals as goal

pub returns : goal.returns
returns c = none_of c.args.name (λ k below. c.loop-kind.invariant k (omega arith))

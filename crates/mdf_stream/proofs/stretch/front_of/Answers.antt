use Rattle.std.proofs.Common.{arith}
use Rattle.mdf_stream.proofs.stretch.front_of.Goals as goal

pub returns-clause-inside : goal.returns-clause-inside
returns-clause-inside c = λ size inside.
    let stretch = c.stretch_of-stretch in
    omega (arith, stretch.ensures.inside size inside, stretch.ensures.begins)

pub returns-clause-bytes : goal.returns-clause-bytes
returns-clause-bytes c = λ f inside. c.stretch_of-stretch.ensures.bytes f c.min.result inside (omega arith)

use Rattle.std.proofs.Common.{arith}
use Rattle.mdf_stream.proofs.stretch.number_far.Goals as goal

pub number-requires-clause-inside : goal.number-requires-clause-inside
number-requires-clause-inside g c =
    omega (arith, c.front_of-part.ensures.inside (g.P.Span.size c.args.span.now) c.requires.inside, c.if-part-count.true)

use Rattle.mdf_stream.proofs.stretch.number_in.Goals as goal

pub number-requires-clause-inside : goal.number-requires-clause-inside
number-requires-clause-inside g c =
    rw c.in-Some.is at (c.place_here.ensures.inside (g.P.Span.size c.args.span.now) c.requires.inside)

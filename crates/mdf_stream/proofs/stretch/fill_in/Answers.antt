use Rattle.mdf_stream.proofs.stretch.fill_in.Goals as goal

pub fill-requires : goal.fill-requires
fill-requires g c =
    rw c.in-Some.is at (c.place_here.ensures.inside (g.P.Span.size c.args.span.now) c.requires.inside)

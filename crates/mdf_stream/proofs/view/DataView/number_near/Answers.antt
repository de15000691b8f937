use Rattle.std.proofs.Common.{◌≡◌, ◌∙◌, ap, arith}
use Rattle.mdf_stream.specs.Parts.{stream_size}
use Rattle.mdf_stream.proofs.Joins.{joined_ends}
use Rattle.mdf_stream.proofs.view.DataView.number_near.Goals as goal

pub number_in-requires-clause-within : goal.number_in-requires-clause-within
number_in-requires-clause-within g c =
    let inside = c.self.inside in
    let ends : inside.end ≡ stream_size c.args.self.now =
    joined_ends inside.items.items inside.end c.self.invariant.0 ∙ ap stream_size c.self.view_is in
    omega (arith, ends, c.requires.within)

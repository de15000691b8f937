use Rattle.std.proofs.Common.{◌≡◌, ◌∙◌, ap, arith}
use Rattle.mdf_stream.specs.Parts.{stream_size}
use Rattle.mdf_stream.proofs.Joins.{joined_ends}
use Rattle.mdf_stream.proofs.view.DataView.read_near.Goals as goal

pub fill_in-requires-clause-within : goal.fill_in-requires-clause-within
fill_in-requires-clause-within g c =
    let inside = c.self.inside in
    let ends : inside.end ≡ stream_size c.args.self.now =
    joined_ends inside.items.items inside.end c.self.invariant.0 ∙ ap stream_size c.self.view_is in
    omega (arith, ends, c.requires.within)

use Rattle.std.proofs.Common.{◌≡◌, ◌∙◌, ap, arith, subst, sym}
use Rattle.mdf_stream.specs.Parts.{stream_size, ArePartsInside}
use Rattle.mdf_stream.specs.Stretch.{parts_of}
use Rattle.mdf_stream.proofs.Joins.{joined_ends}
use Rattle.mdf_stream.proofs.view.DataView.first_part.Goals as goal

pub front_of-requires-clause-within : goal.front_of-requires-clause-within
front_of-requires-clause-within c =
    let inside = c.self.inside in
    let ends : inside.end ≡ stream_size c.args.self.now =
    joined_ends inside.items.items inside.end c.self.invariant.0 ∙ ap stream_size c.self.view_is in
    omega (arith, ends, c.requires.within)

pub returns-clause-inside : goal.returns-clause-inside
returns-clause-inside c = λ size inside.
    let same : parts_of c.as_slice.result.now ≡ c.args.self.now = ap parts_of c.as_slice.ensures.value ∙ c.self.view_is in
    c.front_of.ensures.inside size (subst (ArePartsInside size) (sym same) inside)

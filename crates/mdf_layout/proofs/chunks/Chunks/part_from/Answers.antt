use Rattle.std.proofs.Common.{◌-◌, ◌∙◌, List, ap, arith, drop, length, length-drop, sym, subst}
use Rattle.std.specs.Arc.{arc_value}
use mathlib.Core.List.{IsPrefix}
use Rattle.mdf_layout.specs.Chunked.{joined}
use Rattle.mdf_layout.specs.declared.sample.Sample.{Sample}
use Rattle.mdf_layout.proofs.Joined.{found_begins, found_end}
use Rattle.mdf_layout.proofs.chunks.Chunks.part_from.Goals as goal

pub rest-requires : goal.rest-requires
rest-requires c =
    let ends = found_end c.self.inside.parts.items c.self.inside.len c.args.at c.upto.result c.index-part.result.now c.args.self.now c.self.invariant c.self.view_is
    c.index-part.ensures c.upto.ensures.bound c.upto.ensures.before c.upto.ensures.later c.requires in
    omega (arith, ends, ap length c.deref.ensures)

pub returns-clause-part : goal.returns-clause-part
returns-clause-part c =
    subst (λ (xs : List Sample). IsPrefix xs (drop c.args.at (joined c.args.self.now)))
    (sym (c.rest.ensures ∙ ap (drop (c.args.at - c.index-part.result.now.start)) c.deref.ensures))
    (found_begins c.self.inside.parts.items c.self.inside.len c.args.at c.upto.result c.index-part.result.now c.args.self.now c.self.invariant c.self.view_is
    c.index-part.ensures c.upto.ensures.bound c.upto.ensures.before c.upto.ensures.later c.requires)

pub returns-clause-some : goal.returns-clause-some
returns-clause-some c =
    let place = c.args.at - c.index-part.result.now.start in
    let ends = found_end c.self.inside.parts.items c.self.inside.len c.args.at c.upto.result c.index-part.result.now c.args.self.now c.self.invariant c.self.view_is
    c.index-part.ensures c.upto.ensures.bound c.upto.ensures.before c.upto.ensures.later c.requires in
    omega (arith, ends, ap length (c.rest.ensures ∙ ap (drop place) c.deref.ensures), length-drop place (arc_value c.index-part.result.now.chunk))

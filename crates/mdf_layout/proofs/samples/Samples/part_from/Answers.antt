use Rattle.std.proofs.Common.{◌-◌, ◌∙◌, List, ap, arith, drop, sym, subst}
use Rattle.std.proofs.lemmas.List.{take_rest}
use mathlib.Core.List.{IsPrefix}
use Rattle.mdf_layout.specs.declared.sample.Sample.{Sample}
use Rattle.mdf_layout.proofs.Sealing.{piece_open, piece_sealed}
use Rattle.mdf_layout.proofs.samples.Samples.part_from.Goals as goal

pub returns-then-at-sealed-clause-part : goal.returns-then-at-sealed-clause-part
returns-then-at-sealed-clause-part c =
    subst (λ a. IsPrefix c.part_from.result.now (drop c.args.at a.items)) c.self.view_is
    (piece_sealed c.self.inside.chunks c.self.inside.tail.items c.part_from.result.now c.args.at (omega (arith, c.len-sealed.ensures)) c.part_from.ensures.part)

pub returns-else-at-sealed-clause-part : goal.returns-else-at-sealed-clause-part
returns-else-at-sealed-clause-part c =
    let from = c.args.at - c.len-sealed.result in
    subst (λ (xs : List Sample). IsPrefix xs (drop c.args.at c.args.self.now.items))
    (sym (take_rest c.as_slice.result.now from ∙ ap (drop from) c.as_slice.ensures.value))
    (subst (λ a. IsPrefix (drop from c.self.inside.tail.items) (drop c.args.at a.items)) c.self.view_is
    (piece_open c.self.inside.chunks c.self.inside.tail.items c.args.at c.len-sealed.result c.len-sealed.ensures (omega arith)))

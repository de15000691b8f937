use Rattle.std.proofs.Common.{◌+◌, ◌∙◌, sym, ap, arith}
use Rattle.mdf_format.specs.Field.{place_of}
use Rattle.mdf_layout.specs.Rule.{has_bit, spot_in}
use Rattle.mdf_layout.proofs.Rules.{any_none, any_more, any_from}
use Rattle.mdf_layout.proofs.rule.shares_bit.Goals as goal

pub loop-i-init : goal.loop-i-init
loop-i-init c = any_none _

pub returns-then-has_bit : goal.returns-then-has_bit
returns-then-has_bit c =
    let here = ap (has_bit (spot_in c.args.other)) (sym c.place_of.ensures) ∙ sym c.has_bit.ensures ∙ c.if-has_bit.true in
    sym (any_from _ (λ i. has_bit (spot_in c.args.other) (place_of (spot_in c.args.one) (c.args.one.bit + i))) c.loop-i.i (omega (arith, c.loop-i-test.true, c.bits_of-i-end.ensures)) here)

pub loop-i-preserved : goal.loop-i-preserved
loop-i-preserved c =
    let here = ap (has_bit (spot_in c.args.other)) (sym c.place_of.ensures) ∙ sym c.has_bit.ensures ∙ c.if-has_bit.false in
    any_more c.loop-i.i (λ i. has_bit (spot_in c.args.other) (place_of (spot_in c.args.one) (c.args.one.bit + i))) c.loop-i.invariant here

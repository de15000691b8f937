use Rattle.std.proofs.Common.{◌≡◌, ◌+◌, ◌-◌, ◌*◌, Bool, false, sym, subst, arith, rules}
use Rattle.mdf_format.specs.Field.{place_of}
use Rattle.mdf_layout.specs.Rule.{bits_in}
use Rattle.mdf_layout.proofs.shape.filled_with.Goals as goal

pub returns-then-row-end-clause-filled : goal.returns-then-row-end-clause-filled
returns-then-row-end-clause-filled c = λ p low high.
    let row = c.args.row in
    let little : row.big ≡ false = search rules in
    let k = p - 8 * row.byte in
    let here : p ≡ 8 * row.byte + k = omega (arith, low, c.if-row-end.true) in
    record {
      k = k;
      low = omega (arith, low, c.if-row-end.true);
      high = omega (arith, low, high, c.if-row-end.true, c.bits_of.ensures);
      there = subst (λ (big : Bool). p ≡ place_of (record { byte = row.byte; bit = row.bit; bits = bits_in row.kind row.bits; big = big }) k) (sym little) here;
    }

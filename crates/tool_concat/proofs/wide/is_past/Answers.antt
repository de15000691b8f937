use Rattle.std.proofs.Common.{◌≡◌, ◌≢◌, ◌+◌, ◌*◌, ◌/◌, ◌^◌, ◌<◌, ◌≤◌, ℕ, ◌∙◌, ap, arith, div-lt_iff_lt-mul}
use Rattle.std.proofs.lemmas.Bool.{eqb-false, ne_eqb, not-true, not_from_false}
use Rattle.std.proofs.lemmas.Nat.{pow_pos}
use Rattle.std.specs.Prelude.{nat_eq}
use Rattle.mdf_format.specs.Field.{Spot, field_number}
use Rattle.mdf_bits.proofs.Powers.{not_below}
use Rattle.tool_concat.specs.Moved.{offset_in}
use Rattle.tool_concat.proofs.wide.is_past.Goals as goal

not_small : (n k : ℕ) → 2 ^ k ≤ n → n / 2 ^ k ≢ 0
not_small n k above none =
    let below : n / 2 ^ k < 1 = omega (arith, none) in
    let small : n < 1 * 2 ^ k = (div-lt_iff_lt-mul (pow_pos k)).0 below in
    absurd (omega (arith, small, above))

pub returns : goal.returns
returns c =
    let bits = c.args.row.bits in
    let sum = c.from.result + c.from-2.result in
    let offset : c.get-offset.result ≡ offset_in c.args.row c.args.bytes.now =
    c.get-offset.ensures.number ∙ ap (λ (spot : Spot). field_number spot c.args.bytes.now) c.offset_field.ensures in
    let same : sum ≡ offset_in c.args.row c.args.bytes.now + c.args.shift = omega (arith, c.from.ensures, c.from-2.ensures, offset) in (
      λ is. omega (arith, same, not_below sum bits (eqb-false (sum / 2 ^ bits) 0 (not-true (nat_eq (sum / 2 ^ bits) 0) is))),
      λ past. not_from_false (nat_eq (sum / 2 ^ bits) 0) (ne_eqb (sum / 2 ^ bits) 0 (not_small sum bits (omega (arith, same, past)))),
    )

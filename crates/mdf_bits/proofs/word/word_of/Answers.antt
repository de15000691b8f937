use Rattle.std.proofs.Common.{◌≡◌, ◌<◌, ◌*◌, ◌^◌, ℕ, Bool, false, length, sym, ◌∙◌, ap, subst, rules}
use Rattle.std.specs.Int.{bit_at}
use Rattle.mdf_format.specs.Field.{bit_of, lowest_first}
use Rattle.mdf_bits.proofs.Orders.{are_bytes, bit_at-le_number, le_number-lt}
use Rattle.mdf_bits.proofs.word.word_of.Goals as goal

pub returns-then-not-big-clause-bits : goal.returns-then-not-big-clause-bits
returns-then-not-big-clause-bits c = λ k.
    let bytes = c.args.bytes.now in
    let little : c.args.big ≡ false = search rules in
    ap (λ (n : ℕ). bit_at n k) c.number_of.ensures.number ∙ bit_at-le_number bytes k (are_bytes bytes c.type_inv.bytes)
    ∙ ap (λ (big : Bool). bit_of (lowest_first big bytes) k) (sym little)

pub returns-then-not-big-clause-fits : goal.returns-then-not-big-clause-fits
returns-then-not-big-clause-fits c =
    let bytes = c.args.bytes.now in
    subst (λ (n : ℕ). n < 2 ^ (8 * length bytes)) (sym c.number_of.ensures.number) (le_number-lt bytes (are_bytes bytes c.type_inv.bytes))

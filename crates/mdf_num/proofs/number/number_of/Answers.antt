use Rattle.std.proofs.Common.{length, ◌∙◌, arith}
use Rattle.byteorder.specs.Numbers.{little_from-lt}
use Rattle.mdf_num.proofs.Numbers.{little_number-whole}
use Rattle.mdf_num.proofs.number.number_of.Goals as goal

pub returns-in_default-clause-number : goal.returns-in_default-clause-number
returns-in_default-clause-number c = c.read_uint.ensures ∙ little_number-whole c.args.bytes.now

pub returns-in_default-clause-fits : goal.returns-in_default-clause-fits
returns-in_default-clause-fits c =
    let below = little_from-lt 0 (length c.args.bytes.now) c.args.bytes.now (λ k. omega (arith, c.type_inv.bytes k)) in
    omega (arith, c.read_uint.ensures, below)

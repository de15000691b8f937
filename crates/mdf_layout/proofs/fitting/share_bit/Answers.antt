use Rattle.std.proofs.Common.{◌∙◌, sym}
use Rattle.mdf_layout.specs.Rule.{spot_in}
use Rattle.mdf_layout.proofs.Rules.{shares_bit_law}
use Rattle.mdf_layout.proofs.Apart.{share_back}
use Rattle.mdf_layout.proofs.fitting.share_bit.Goals as goal

pub returns-then-bits_of : goal.returns-then-bits_of
returns-then-bits_of c =
    let law = shares_bit_law (spot_in c.args.one) (spot_in c.args.other) in (
      λ is. law.to (sym c.shares_bit.ensures ∙ is),
      λ shares. c.shares_bit.ensures ∙ law.from shares,
    )

pub returns-else-bits_of : goal.returns-else-bits_of
returns-else-bits_of c =
    let law = shares_bit_law (spot_in c.args.other) (spot_in c.args.one) in (
      λ is. share_back (spot_in c.args.other) (spot_in c.args.one) (law.to (sym c.shares_bit-else-bits_of.ensures ∙ is)),
      λ shares. c.shares_bit-else-bits_of.ensures ∙ law.from (share_back (spot_in c.args.one) (spot_in c.args.other) shares),
    )

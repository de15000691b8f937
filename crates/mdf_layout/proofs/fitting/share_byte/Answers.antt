use Rattle.std.proofs.Common.{arith}
use Rattle.std.proofs.lemmas.Bool.{ltb-true, lt-ltb}
use Rattle.mdf_layout.specs.Rule.{spot_in}
use Rattle.mdf_layout.proofs.Apart.{share_from, share_to}
use Rattle.mdf_layout.proofs.fitting.share_byte.Goals as goal

pub returns : goal.returns
returns c = (
  λ less.
      share_from (spot_in c.args.one) (spot_in c.args.other) c.requires.one c.requires.other
      (omega (arith, ltb-true c.later_start.result c.earlier_end.result less, c.later_start.ensures, c.earlier_end.ensures)),
  λ shares.
      let both = share_to (spot_in c.args.one) (spot_in c.args.other) c.requires.one c.requires.other shares in
      lt-ltb c.later_start.result c.earlier_end.result (omega (arith, both, c.later_start.ensures, c.earlier_end.ensures)),
)

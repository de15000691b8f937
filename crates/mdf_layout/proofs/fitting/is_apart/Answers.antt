use Rattle.mdf_layout.proofs.Apart.{not_apart}
use Rattle.mdf_layout.proofs.fitting.is_apart.Goals as goal

pub returns-else-not-share_bit : goal.returns-else-not-share_bit
returns-else-not-share_bit c = not_apart c.share_bit.result c.args.one c.args.other c.share_bit.ensures c.if-not-share_bit.false

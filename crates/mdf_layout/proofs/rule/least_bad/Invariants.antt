use Rattle.mdf_layout.specs.Rule.{AreRuled}
use Rattle.mdf_layout.proofs.rule.least_bad.Given as goal

-- the channels so far break no rule
abbrev pub invariant-loop-channel : goal.invariant-loop-channel
invariant-loop-channel l = AreRuled l.data_bytes l.inval_bytes l.rows l.channel

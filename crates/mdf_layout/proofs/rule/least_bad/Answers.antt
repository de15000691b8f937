use Rattle.std.proofs.Common.{◌≡◌, ◌∙◌, sym, false, get_or, below_more}
use Rattle.mdf_layout.specs.Rule.{breaks_row_rule}
use Rattle.mdf_layout.proofs.rule.least_bad.Goals as goal

pub loop-channel-preserved : goal.loop-channel-preserved
loop-channel-preserved c = λ k d within.
    below_more (λ k. breaks_row_rule c.args.data_bytes c.args.inval_bytes c.args.rows.now k (get_or c.args.rows.now k d) ≡ false) c.loop-channel.channel
    (λ k below. c.loop-channel.invariant k d below)
    (sym (c.breaks_rule.ensures d) ∙ c.if-breaks_rule.false)
    k within

use Rattle.std.proofs.Common.{◌∙◌, sym, length}
use Rattle.mdf_layout.specs.Rule.{meets_at}
use Rattle.mdf_layout.proofs.Rules.{any_none, any_more, any_from}
use Rattle.mdf_layout.proofs.rule.meets_another.Goals as goal

pub loop-j-init : goal.loop-j-init
loop-j-init c = any_none _

pub returns-then-meets : goal.returns-then-meets
returns-then-meets c =
    sym (any_from (length c.args.rows.now) (meets_at c.args.rows.now c.args.k c.args.row) c.loop-j.j c.loop-j-test.true (sym c.meets.ensures ∙ c.if-meets.true))

pub loop-j-preserved : goal.loop-j-preserved
loop-j-preserved c =
    any_more c.loop-j.j (meets_at c.args.rows.now c.args.k c.args.row) c.loop-j.invariant (sym c.meets.ensures ∙ c.if-meets.false)

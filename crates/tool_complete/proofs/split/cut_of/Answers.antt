use Rattle.std.proofs.Common.{sym, ◌∙◌}
use Rattle.tool_complete.proofs.Cuts.{is_final, no_block, not_final}
use Rattle.tool_complete.proofs.Listed.{refused_block}
use Rattle.tool_complete.proofs.split.cut_of.Goals as goal

pub returns-in_default-clause-cut : goal.returns-in_default-clause-cut
returns-in_default-clause-cut c = λ groups split counted.
    let refused = refused_block _ c.in_default.field-0 c.in_default.ensures.exact in
    no_block c.args.bytes.now c.args.last c.args.row.now split refused.0 refused.1

pub returns-then-ending-last-clause-cut : goal.returns-then-ending-last-clause-cut
returns-then-ending-last-clause-cut c = λ groups split counted.
    not_final c.args.bytes.now c.args.last c.args.row.now split c.in-Ok.block c.in-Ok.ensures.exact
    (λ same. c.if-ending-last.true (c.in_ok-ending.ensures ∙ same))

pub returns-clause-cut : goal.returns-clause-cut
returns-clause-cut c = λ groups split counted.
    is_final c.args.bytes.now c.args.last c.args.row.now split c.in-Ok.block c.cut_with.result c.in-Ok.ensures.exact
    (sym c.in_ok-ending.ensures ∙ c.if-ending-last.false) (c.cut_with.ensures.cut groups split counted)

use Rattle.std.proofs.Common.{sym, ◌∙◌}
use Rattle.tool_complete.proofs.Splits.{is_counted, not_read, not_sized}
use Rattle.tool_complete.proofs.split.counted_of.Goals as goal

pub returns-then-not-has_id_size : goal.returns-then-not-has_id_size
returns-then-not-has_id_size c = not_sized c.args.bytes.now c.args.row.now (sym c.has_id_size.ensures ∙ c.if-not-has_id_size.true)

pub returns-in_ok-tally-in-Ok : goal.returns-in_ok-tally-in-Ok
returns-in_ok-tally-in-Ok c =
    is_counted c.args.bytes.now c.args.row.now c.in-Ok.view _ (sym c.has_id_size.ensures ∙ c.if-not-has_id_size.false) c.in-Ok.ensures.exact
    c.len.ensures.size c.in_ok-tally-in-Ok.ensures.tally c.in_ok-tally-in-Ok.ensures.within

pub returns-in-Err : goal.returns-in-Err
returns-in-Err c =
    not_read c.args.bytes.now c.args.row.now c.in-Err.fault c.none_counted.result (sym c.has_id_size.ensures ∙ c.if-not-has_id_size.false)
    c.none_counted.ensures c.in-Err.ensures.exact
